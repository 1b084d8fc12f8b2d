use mathlib.Core.Path.{ap, ◌∙◌}
use Prim.Native.Nat.{ℕ, ◌+◌}
use native.Mathlib.Omega.{arith}
use lib.ListN.{get_or, set, length-set}
use Rattle.std.proofs.lemmas.List.Edits.{fill_by_more}
use Rattle.std.proofs.lemmas.List.FromFn.{fill_by_all}
use Rattle.aes.specs.Columns.{state}
use Rattle.aes.specs.declared.State.{State}
use Rattle.aes_tables.proofs.SeriesLaws.{behind, all-blocks}
use Rattle.aes_tables.proofs.series.Series.blocks.Goals as goal

pub loop-i-preserved : goal.loop-i-preserved
loop-i-preserved g c =
    let s = c.args.self.now in
    let l = c.loop-i in
    let f = λ (k : ℕ). behind s.tables.words.now s.keys.words.now s.first s.front s.front_of s.from_zero (c.args.j + k) in
    let more = fill_by_more f l.states l.i (state 0 0 0 0) (omega arith) l.invariant.filled in
    record {
      size = simp length-set l.invariant.size;
      filled = λ k h. ap (λ (x : State). get_or (set l.states l.i x) k (state 0 0 0 0)) c.behind_two.ensures ∙ more k h;
    }

pub returns : goal.returns
returns g c =
    let s = c.args.self.now in
    let l = c.loop-i in
    let f = λ (k : ℕ). behind s.tables.words.now s.keys.words.now s.first s.front s.front_of s.from_zero (c.args.j + k) in
    all-blocks s.tables.words.now s.keys.words.now s.first s.front s.front_of s.from_zero s.keys.rounds c.args.j g.row.N c.finish.result (omega arith)
    (fill_by_all f l.states g.row.N (state 0 0 0 0) l.invariant.size (λ k h. l.invariant.filled k (omega arith))) c.finish.ensures
