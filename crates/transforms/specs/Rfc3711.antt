-- RFC 3711, section 4, in its own terms: with the keys themselves where the definitions beside this one, and the code, have what is
-- made of a key once (the expanded cipher key, HMAC's two hash values). Assumes nothing.
use Rattle.std.specs.Prelude.{ℕ, zero, suc, ◌+◌, ◌*◌, ◌/◌, ◌%◌, ◌^◌, ◌≡◌, List, [], ◌++◌, take}
use Rattle.octets.specs.BigEndian.{to_bytes, from_bytes}
use Rattle.aes.specs.Aes.{aes}
use Rattle.hmac_sha1.specs.Hmac.{hmac}
use Rattle.transforms.specs.CounterMode.{initial_counter}
use Rattle.transforms.specs.KeyDerivation.{derivation_input}
use Rattle.transforms.specs.Ciphers.{stream}
use Rattle.transforms.specs.Tag.{authentication_tag}
use Rattle.transforms.specs.declared.SessionKeys.{SessionKeys}
use Rattle.transforms.specs.declared.Cipher.TheVariants.{Aes}

-- 4.1.1: E(k, IV) || E(k, IV + 1 mod 2^128) || .., n blocks, E being AES-128
unfoldable pub counter_mode_blocks : (key : List ℕ) (iv n : ℕ) → List ℕ
counter_mode_blocks key iv zero = []
counter_mode_blocks key iv (suc n) = counter_mode_blocks key iv n ++ aes 4 key (to_bytes 16 ((iv + n) % 2 ^ 128))

-- 4.1.1: its first n bytes, AES-CM
unfoldable pub counter_mode : (key : List ℕ) (iv n : ℕ) → List ℕ
counter_mode key iv n = take n (counter_mode_blocks key iv (n / 16 + 1))

-- 4.3.3: PRF_n(k_master, x)
abbrev pub prf : (key salt : List ℕ) (label n : ℕ) → List ℕ
prf key salt label n = counter_mode key (derivation_input salt label * 2 ^ 16) n

-- k does what the session keys k_e, k_a and k_s do that master key and master salt give at the first label (4.3.1, 4.3.2)
pub record Derived (label : ℕ) (key salt : List ℕ) (k : SessionKeys) : Type 0 where
  -- 4.1.1: the keystream of a packet
  pub keystream : (ssrc index : ℕ) (clear : List ℕ) (n : ℕ)
      → stream Aes k ssrc index clear n ≡ counter_mode (prf key salt label 16) (initial_counter (from_bytes (prf key salt (label + 2) 14)) ssrc index) n
  -- 4.2.1: the authentication tag
  pub tag : (n : ℕ) (m : List ℕ) → authentication_tag n k m ≡ take n (hmac (prf key salt (label + 1) 20) m)
