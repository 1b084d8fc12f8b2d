-- What the exported call answers for a message of any length. Assumes nothing.
use Rattle.std.specs.Prelude.{ℕ, ◌^◌, cond, List, length, replicate, ltb}
use Rattle.hmac_sha1.specs.Sha1.{sha1}

-- the digest of m, or twenty zeros where m has 2 ^ 64 bits or more (FIPS 180-4, section 1, figure 1)
abbrev pub digest_given : List ℕ → List ℕ
digest_given m = cond (ltb (length m) (2 ^ 61)) (sha1 m) (replicate 20 0)
