use mathlib.Core.List.{List}
use mathlib.Core.Path.{ap, ◌∙◌}
use Prim.Native.Nat.{◌<◌}
use native.Mathlib.Omega.{arith}
use lib.ListN.{length, get_or, set, length-append, length-map, length-take, length-drop}
use Rattle.std.proofs.lemmas.Grind.{common_steps}
use Rattle.std.proofs.lemmas.List.{get_or_default}
use Rattle.std.proofs.lemmas.List.Edits.{map_over_more}
use Rattle.aes.specs.Columns.{state}
use Rattle.aes.specs.declared.State.{State}
use Rattle.aes_tables.specs.Rounds.{round_by, each_round_by}
use Rattle.aes_tables.proofs.rounds.Table.each_round.Goals as goal

pub loop-s-preserved : goal.loop-s-preserved
loop-s-preserved g c =
    let l = c.loop-s in
    let old : List State = c.args.states.now in
    let x : State = get_or l.s-items l.s-index (state 0 0 0 0) in
    let e = simp (length-append, length-map, length-take, length-drop) at (ap length l.invariant) in
    let h : l.s-index < length l.s-items = omega arith in
    ap (set l.s-items l.s-index) c.round.ensures
    ∙ map_over_more (λ (s : State). round_by c.args.self.words.now g.row.D s c.args.key) old l.s-items l.s-index x (omega arith) l.invariant
    (get_or_default l.s-items l.s-index (state 0 0 0 0) x h)

pub returns : goal.returns
unfolding each_round_by
returns g c = grind (arith, common_steps)
