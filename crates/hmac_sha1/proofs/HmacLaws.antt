-- Laws of HMAC: its length, its elements, and that the state of a key gives RFC 2104's HMAC of that key. Assumes nothing.
use Rattle.std.proofs.Common.{◌≡◌, ℕ, ◌<◌, ◌≤◌, Bool, true, false, cond, leb, List, [], ◌++◌, length, replicate, refl, ap, ◌∙◌, append-nil, arith, le-leb, leb-true}
use borrow.Author.Tests.{lt-leb}
use lib.Seq.{drop-length}
use Rattle.octets.specs.BigEndian.{Bytes}
use Rattle.octets.specs.Xor.{xors}
use Rattle.octets.specs.Buffer.{over}
use Rattle.octets.proofs.XorLaws.{length-xors}
use Rattle.hmac_sha1.specs.declared.HmacKey.{HmacKey}
use Rattle.hmac_sha1.specs.Sha1.{initial, compress, sha1}
use Rattle.hmac_sha1.specs.Parts.{zero_filled, sha1_after}
use Rattle.hmac_sha1.specs.Hmac.{ipad, opad, block_key, hmac, key_state, hmac_key, hmac_with}
use Rattle.hmac_sha1.proofs.MessageLaws.{length-zero_filled}
use Rattle.hmac_sha1.proofs.DigestLaws.{length-sha1, bytes-sha1, length-sha1_after, bytes-sha1_after, sha1-behind}

-- ---- twenty bytes

pub length-hmac : (key text : List ℕ) → length (hmac key text) ≡ 20
unfolding hmac
length-hmac key text = length-sha1 _

pub bytes-hmac : (key text : List ℕ) → Bytes (hmac key text)
unfolding hmac
bytes-hmac key text = bytes-sha1 (xors (block_key key) opad ++ sha1 (xors (block_key key) ipad ++ text))

pub length-hmac_with : (k : HmacKey) (text : List ℕ) → length (hmac_with k text) ≡ 20
unfolding hmac_with
length-hmac_with k text = length-sha1_after k.outer 64 (sha1_after k.inner 64 text)

pub bytes-hmac_with : (k : HmacKey) (text : List ℕ) → Bytes (hmac_with k text)
unfolding hmac_with
bytes-hmac_with k text = bytes-sha1_after k.outer 64 (sha1_after k.inner 64 text)

-- ---- the state of a key

-- a pad of a block's length, with a key of that length, written over a block
pub pad-over : (k p d : List ℕ) → length k ≡ 64 → length p ≡ 64 → length d ≡ 64 → over (xors k p) d ≡ xors k p
unfolding over
pad-over k p d lk lp ld =
    let e : length (xors k p) ≡ length d = length-xors k p ∙ rw (lk, lp, ld) in
    rw (e, drop-length) (append-nil (xors k p))

length-block_key : (key : List ℕ) → length (block_key key) ≡ 64
unfolding block_key
length-block_key key = length-zero_filled (cond (leb (length key) 64) key (sha1 key)) (cases (leb (length key) 64) refl)
  where
    cases : (t : Bool) → leb (length key) 64 ≡ t → length (cond t key (sha1 key)) ≤ 64
    cases true e = leb-true (length key) 64 e
    cases false e = omega (arith, length-sha1 key)

length-pad : (key : List ℕ) (v : ℕ) → length (xors (block_key key) (replicate 64 v)) ≡ 64
length-pad key v = length-xors (block_key key) (replicate 64 v) ∙ rw (length-block_key key)

-- a short key is filled up, and a long one is hashed first: as the code has it, a message whose second part is empty
pub key-short : (key : List ℕ) → length key ≤ 64 → key_state (zero_filled key) ≡ hmac_key key
unfolding hmac_key block_key
key-short key l = rw (le-leb (length key) 64 l)

pub key-long : (key d : List ℕ) → 64 < length key → d ≡ sha1 (key ++ []) → key_state (zero_filled d) ≡ hmac_key key
unfolding hmac_key block_key
key-long key d l e = rw (e, append-nil key, lt-leb (length key) 64 l)

pub hmac_with-key : (key text : List ℕ) → hmac_with (hmac_key key) text ≡ hmac key text
unfolding hmac_with hmac_key key_state hmac
hmac_with-key key text =
    ap (sha1_after (compress initial (xors (block_key key) opad)) 64) (sha1-behind (xors (block_key key) ipad) text (length-pad key 0x36))
    ∙ sha1-behind (xors (block_key key) opad) (sha1 (xors (block_key key) ipad ++ text)) (length-pad key 0x5c)
