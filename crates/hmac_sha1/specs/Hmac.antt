-- HMAC-SHA1 (RFC 2104): H is SHA-1, the block length B is 64 bytes, the output length L is 20. Assumes nothing.
use Rattle.std.specs.Prelude.{ℕ, cond, List, ◌++◌, length, replicate, nat_le}
use Rattle.octets.specs.Xor.{xors}
use Rattle.hmac_sha1.specs.declared.HmacKey.{HmacKey}
use Rattle.hmac_sha1.specs.Sha1.{initial, compress, sha1}
use Rattle.hmac_sha1.specs.Parts.{zero_filled, sha1_after}

-- ---- 2 Definition of HMAC

-- the byte 0x36, and the byte 0x5C, repeated B times
abbrev pub ipad : List ℕ
ipad = replicate 64 0x36

abbrev pub opad : List ℕ
opad = replicate 64 0x5c

-- a key of any length brought to B bytes: one that is longer is hashed first, and zeros are appended
unfoldable pub block_key : List ℕ → List ℕ
block_key key = zero_filled (cond (nat_le (length key) 64) key (sha1 key))

-- H(K XOR opad, H(K XOR ipad, text))
unfoldable pub hmac : List ℕ → List ℕ → List ℕ
hmac key text = sha1 (xors (block_key key) opad ++ sha1 (xors (block_key key) ipad ++ text))

-- ---- 4 Implementation note: the hash values after the blocks K XOR ipad and K XOR opad serve every text of one key

-- of a key K of B bytes
unfoldable pub key_state : List ℕ → HmacKey
key_state k = record { inner = compress initial (xors k ipad); outer = compress initial (xors k opad) }

-- of a key of any length
unfoldable pub hmac_key : List ℕ → HmacKey
hmac_key key = key_state (block_key key)

unfoldable pub hmac_with : HmacKey → List ℕ → List ℕ
hmac_with k text = sha1_after k.outer 64 (sha1_after k.inner 64 text)
