-- RFC 3711, section 4.3: session keys from master key and master salt, with a key derivation rate of zero. Assumes nothing.
use Rattle.std.specs.Prelude.{ℕ, ◌+◌, ◌*◌, ◌^◌, List}
use Rattle.std.specs.Int.Bits.{bit_xor}
use Rattle.octets.specs.BigEndian.{from_bytes}
use Rattle.aes.specs.KeyExpansion.{key_expansion}
use Rattle.hmac_sha1.specs.Hmac.{hmac_key}
use Rattle.transforms.specs.CounterMode.{keystream}
use Rattle.transforms.specs.declared.SessionKeys.{SessionKeys}

-- 4.3.1: x = key_id XOR master_salt, where key_id = label || r and r, of 48 bits, is 0
abbrev pub derivation_input : (salt : List ℕ) (label : ℕ) → ℕ
derivation_input salt label = bit_xor (label * 2 ^ 48) (from_bytes salt)

-- 4.3.3: the pseudo-random function: n bytes of AES counter mode under the master key, from the block x * 2^16
unfoldable pub derived : (key salt : List ℕ) (label n : ℕ) → List ℕ
derived key salt label n = keystream (key_expansion 4 key) (derivation_input salt label * 2 ^ 16) n

-- 4.3.1, 4.3.2: the labels of the cipher key, of the authentication key behind it and of the salt behind that
abbrev pub media_label : ℕ
media_label = 0

abbrev pub control_label : ℕ
control_label = 3

-- the session keys at a first label, ready for use: the cipher key expanded, and what HMAC keeps of the authentication key
unfoldable pub session_keys : (label : ℕ) (key salt : List ℕ) → SessionKeys
session_keys label key salt =
    record {
      round = key_expansion 4 (derived key salt label 16);
      tag = hmac_key (derived key salt (label + 1) 20);
      salt = derived key salt (label + 2) 14;
    }
