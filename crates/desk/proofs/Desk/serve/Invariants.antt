-- The loop's invariant: `out` has the output of the bytes taken, and what is left of the input has the rest. The measure is what is left.
use Rattle.std.proofs.Common.{List, ℕ, ◌-◌, ◌≤◌, length}
use Rattle.desk.specs.Reads.{Stands, Turns}
use Rattle.desk.proofs.Desk.serve.Given as goal

abbrev pub invariant-loop-serving : goal.invariant-loop-serving
invariant-loop-serving l = record {
  within : l.serving.at ≤ length l.input;
  turns : (f : List ℕ) → Stands l.initial.serving.desk f → Turns l.initial.serving f l.serving l.input l.initial.out l.out;
}

abbrev pub decreases-loop-serving : goal.decreases-loop-serving
decreases-loop-serving l = length l.input - l.serving.at
