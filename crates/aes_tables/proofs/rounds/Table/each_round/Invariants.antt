-- The loop's invariant: the round is made on the states before this one.
use mathlib.Core.List.{◌++◌, map}
use mathlib.Core.Path.{◌≡◌}
use lib.ListN.{take, drop}
use Rattle.aes.specs.declared.State.{State}
use Rattle.aes_tables.specs.Rounds.{round_by}
use Rattle.aes_tables.proofs.rounds.Table.each_round.Given as goal

abbrev pub invariant-loop-s : goal.invariant-loop-s
invariant-loop-s g l =
    l.s-items ≡ map (λ (s : State). round_by l.self.words.now g.row.D s l.key) (take l.s-index l.initial.s-items) ++ drop l.s-index l.initial.s-items
