-- The loop's invariant: h is the hash value after the blocks of m so far.
use Rattle.std.proofs.Common.{◌≡◌}
use Rattle.hmac_sha1.specs.Sha1.{hash_value}
use Rattle.hmac_sha1.proofs.State.whole_blocks.Given as goal

abbrev pub invariant-loop-block : goal.invariant-loop-block
invariant-loop-block l = l.self ≡ hash_value l.initial.self l.m l.block-index
