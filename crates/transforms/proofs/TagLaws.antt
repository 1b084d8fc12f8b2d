-- Laws of the authentication tag (RFC 3711, 4.2): the twenty bytes of HMAC-SHA1, and their beginnings. Assumes nothing.
use mathlib.Core.List.{List, ◌++◌}
use mathlib.Core.Path.{◌≡◌}
use Prim.Native.Nat.{ℕ, ◌≤◌}
use native.Mathlib.Omega.{arith}
use lib.ListN.{length, take}
use lib.Seq.{take_all, take-take, length-take-le}
use Rattle.octets.specs.BigEndian.{Bytes, to_bytes}
use Rattle.hmac_sha1.proofs.HmacLaws.{length-hmac_with, bytes-hmac_with}
use Rattle.hmac_sha1.specs.Hmac.{hmac_with}
use Rattle.transforms.specs.Tag.{authentication_tag, rollover_counter, media_tag, control_tag}
use Rattle.transforms.specs.declared.SessionKeys.{SessionKeys}
use Rattle.transforms.proofs.PartLaws.{bytes_take}

-- ---- the tag over any bytes

-- twenty bytes are all of HMAC
pub whole-tag : (k : SessionKeys) (m : List ℕ) → authentication_tag 20 k m ≡ hmac_with k.tag m
unfolding authentication_tag
whole-tag k m = take_all 20 (hmac_with k.tag m) (omega (arith, length-hmac_with k.tag m))

length-tag : (n : ℕ) (k : SessionKeys) (m : List ℕ) → n ≤ 20 → length (authentication_tag n k m) ≡ n
unfolding authentication_tag
length-tag n k m h = length-take-le n (hmac_with k.tag m) (omega (arith, length-hmac_with k.tag m))

take-tag : (n m : ℕ) (k : SessionKeys) (a : List ℕ) → n ≤ m → take n (authentication_tag m k a) ≡ authentication_tag n k a
unfolding authentication_tag
take-tag n m k a h = take-take n m (hmac_with k.tag a) h

bytes-tag : (n : ℕ) (k : SessionKeys) (m : List ℕ) → Bytes (authentication_tag n k m)
unfolding authentication_tag
bytes-tag n k m = bytes_take n (hmac_with k.tag m) (bytes-hmac_with k.tag m)

-- ---- media and control

module _ (n : ℕ) (k : SessionKeys) (m : List ℕ) where
  pub length-media_tag : (index : ℕ) → n ≤ 20 → length (media_tag n k m index) ≡ n
  unfolding media_tag
  length-media_tag index = length-tag n k (m ++ to_bytes 4 (rollover_counter index))

  pub length-control_tag : n ≤ 20 → length (control_tag n k m) ≡ n
  unfolding control_tag
  length-control_tag = length-tag n k m

  pub bytes-media_tag : (index : ℕ) → Bytes (media_tag n k m index)
  unfolding media_tag
  bytes-media_tag index = bytes-tag n k (m ++ to_bytes 4 (rollover_counter index))

  pub bytes-control_tag : Bytes (control_tag n k m)
  unfolding control_tag
  bytes-control_tag = bytes-tag n k m

  -- a shorter tag is the beginning of a longer one: of the twenty bytes that the code answers a packet takes the first n
  pub take-media_tag : (whole index : ℕ) → n ≤ whole → take n (media_tag whole k m index) ≡ media_tag n k m index
  unfolding media_tag
  take-media_tag whole index = take-tag n whole k (m ++ to_bytes 4 (rollover_counter index))

  pub take-control_tag : (whole : ℕ) → n ≤ whole → take n (control_tag whole k m) ≡ control_tag n k m
  unfolding control_tag
  take-control_tag whole = take-tag n whole k m
