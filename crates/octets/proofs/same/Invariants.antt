-- The loop's invariant: d is 0 exactly where the first i bytes are the same.
use mathlib.Core.Path.{◌≡◌}
use lib.Dec.{eqb}
use lib.ListN.{take}
use Rattle.octets.specs.Equal.{same}
use Rattle.octets.proofs.same.Given as goal

abbrev pub invariant-loop-i : goal.invariant-loop-i
invariant-loop-i l = eqb l.d 0 ≡ same (take l.i l.a) (take l.i l.b)
