-- The loop's invariant: no packet was found so far, and what is left of the input has those that are to be found. The measure is what is left.
use Rattle.std.proofs.Common.{List, ℕ, ◌+◌, ◌-◌, ◌≤◌, length, drop}
use Rattle.desk.specs.Reads.{Holds}
use Rattle.desk.proofs.ReaderLaws.{Came}
use Rattle.desk.proofs.framing.Reader.take.Given as goal

abbrev pub invariant-loop-at : goal.invariant-loop-at
invariant-loop-at l = record {
  from_here : l.from ≤ l.at;
  within : l.at ≤ length l.input;
  cut : l.reader.got ≤ 1 + l.reader.len;
  came : (f : List ℕ) → Holds l.initial.reader l.initial.kept f → Came f (drop l.from l.input) l.reader l.kept (drop l.at l.input);
}

abbrev pub decreases-loop-at : goal.decreases-loop-at
decreases-loop-at l = length l.input - l.at
