-- What a caller of `Contexts::answer` may use. Assumes nothing.
use mathlib.Core.List.{List}
use Prim.Native.Nat.{ℕ, ◌≤◌}
use native.Mathlib.Omega.{arith}
use lib.ListN.{length, length-append}
use Rattle.octets.specs.Buffer.{over}
use Rattle.trace_records.specs.Records.{Reply, Shows}
use Rattle.trace_records.specs.declared.Answered.{Answered}

-- an answer is no longer than the buffer that it was written to
pub answer-fits : (a : Reply) (d d' : List ℕ) (r : Answered) → Shows a d r d' → r.len ≤ length d'
unfolding over
answer-fits a d d' r s = rw (s.len, s.written, length-append) (omega arith)
