-- The loop's invariant: the first t words went into the ring.
use Rattle.hmac_sha1.specs.Parts.{Ring}
use Rattle.hmac_sha1.proofs.block.load_words.Given as goal

abbrev pub invariant-loop-t : goal.invariant-loop-t
invariant-loop-t l = Ring l.m l.t l.w
