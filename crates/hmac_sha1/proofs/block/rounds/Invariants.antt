-- The loop's invariant: v is s after the first 4 i rounds from `from` on.
use Rattle.std.proofs.Common.{◌*◌}
use Rattle.hmac_sha1.specs.Parts.{IsAfterRounds}
use Rattle.hmac_sha1.proofs.block.rounds.Given as goal

abbrev pub invariant-loop-i : goal.invariant-loop-i
invariant-loop-i l = IsAfterRounds l.w l.from (4 * l.i) l.initial.v l.v
