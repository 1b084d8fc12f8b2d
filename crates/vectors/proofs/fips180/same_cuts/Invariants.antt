-- At most i of the first i cuts gave the digest.
use Rattle.std.proofs.Common.{◌≤◌}
use Rattle.vectors.proofs.fips180.same_cuts.Given as goal

abbrev pub invariant-loop-i : goal.invariant-loop-i
invariant-loop-i l = l.n ≤ l.i
