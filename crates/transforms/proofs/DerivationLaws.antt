-- Laws of the key derivation (RFC 3711, 4.3): session keys from master key and master salt. Assumes nothing.
use mathlib.Core.List.{List, ◌++◌}
use mathlib.Core.Path.{◌≡◌, refl, sym, ap, ap₂, ◌∙◌}
use Prim.Native.Nat.{ℕ, zero, suc, ◌+◌, ◌*◌, ◌/◌, ◌%◌, ◌^◌}
use native.Mathlib.Nat.{zero-add}
use lib.ListN.{length, take, replicate, length-replicate}
use Rattle.aes.proofs.AesLaws.{cipher-is-aes}
use Rattle.aes.specs.KeyExpansion.{key_expansion}
use Rattle.octets.specs.BigEndian.{Bytes, to_bytes, from_bytes}
use Rattle.octets.specs.Xor.{xors}
use Rattle.hmac_sha1.proofs.HmacLaws.{hmac_with-key}
use Rattle.hmac_sha1.specs.Hmac.{hmac, hmac_key}
use Rattle.hmac_sha1.specs.declared.HmacKey.{HmacKey}
use Rattle.transforms.specs.Ciphers.{stream}
use Rattle.transforms.specs.CounterMode.{initial_counter, keystream_block, keystream_blocks, keystream}
use Rattle.transforms.specs.KeyDerivation.{derivation_input, derived, session_keys}
use Rattle.transforms.specs.Rfc3711.{counter_mode_blocks, counter_mode, prf, Derived}
use Rattle.transforms.specs.Steps.{segment}
use Rattle.transforms.specs.Tag.{authentication_tag}
use Rattle.transforms.specs.declared.SessionKeys.{SessionKeys}
use Rattle.transforms.proofs.CounterLaws.{words, counted, derivation-counter}
use Rattle.transforms.proofs.KeystreamLaws.{length-keystream, bytes-keystream}
use Rattle.transforms.proofs.SegmentLaws.{length-segment}
use Rattle.transforms.proofs.XoredLaws.{zeros-xors}

-- ---- length, elements, beginnings

module _ (key salt : List ℕ) (label : ℕ) where
  pub length-derived : (n : ℕ) → length (derived key salt label n) ≡ n
  unfolding derived
  length-derived = length-keystream (key_expansion 4 key) (derivation_input salt label * 2 ^ 16)

  pub bytes-derived : (n : ℕ) → Bytes (derived key salt label n)
  unfolding derived
  bytes-derived = bytes-keystream (key_expansion 4 key) (derivation_input salt label * 2 ^ 16)

  -- as the code has it: the keystream under the master key, from the initial counter with the label for the SSRC and 0 for the index, XORed into zeros
  pub derived-in : (w zeros out : List ℕ) (a b c d n : ℕ) → words a b c d ≡ to_bytes 16 (initial_counter (from_bytes salt) label 0)
      → zeros ≡ replicate n 0 → out ≡ xors zeros (segment w (from_bytes (words a b c d)) 0 (length zeros)) → w ≡ key_expansion 4 key → out ≡ derived key salt label n
  unfolding derived
  derived-in w zeros out a b c d n i z p e =
      let s : List ℕ = segment w (from_bytes (words a b c d)) 0 n in
      p ∙ ap₂ (λ (x : List ℕ) (m : ℕ). xors x (segment w (from_bytes (words a b c d)) 0 m)) z (ap length z ∙ length-replicate n 0)
      ∙ zeros-xors s n (sym (length-segment w (from_bytes (words a b c d)) 0 n))
      ∙ ap (keystream w (from_bytes (words a b c d))) (zero-add n)
      ∙ counted w a b c d (initial_counter (from_bytes salt) label 0) n i
      ∙ ap₂ (λ (l : List ℕ) (v : ℕ). keystream l v n) e (sym (derivation-counter salt label))

-- the three keys at a first label, expanded and put together
pub keys-together : (label : ℕ) (key salt e a s r : List ℕ) (t : HmacKey)
    → e ≡ derived key salt label 16 → a ≡ derived key salt (label + 1) 20 → s ≡ derived key salt (label + 2) 14
    → r ≡ key_expansion 4 e → t ≡ hmac_key a → ◌≡◌ {A = SessionKeys} record { round = r; tag = t; salt = s } (session_keys label key salt)
unfolding session_keys
keys-together label key salt e a s r t pe pa ps pr pt = rw (pr, pt, pe, pa, ps)

-- ---- in the RFC's own terms

blocks-keyed : (key : List ℕ) (iv n : ℕ) → keystream_blocks (key_expansion 4 key) iv n ≡ counter_mode_blocks key iv n
unfolding keystream_blocks keystream_block counter_mode_blocks
blocks-keyed key iv zero = refl
blocks-keyed key iv (suc n) =
    ap₂ ◌++◌ (blocks-keyed key iv n) (cipher-is-aes 4 key (key_expansion 4 key) (to_bytes 16 ((iv + n) % 2 ^ 128)) refl)

pub keystream-keyed : (key : List ℕ) (iv n : ℕ) → keystream (key_expansion 4 key) iv n ≡ counter_mode key iv n
unfolding keystream counter_mode
keystream-keyed key iv n = ap (take n) (blocks-keyed key iv (n / 16 + 1))

pub derived-is-prf : (key salt : List ℕ) (label n : ℕ) → derived key salt label n ≡ prf key salt label n
unfolding derived
derived-is-prf key salt label n = keystream-keyed key (derivation_input salt label * 2 ^ 16) n

-- session keys as they are derived are those of RFC 3711
pub derived-session-keys : (label : ℕ) (key salt : List ℕ) → Derived label key salt (session_keys label key salt)
unfolding session_keys stream authentication_tag
derived-session-keys label key salt = record {
  keystream = λ ssrc index clear n.
      keystream-keyed (derived key salt label 16) (initial_counter (from_bytes (derived key salt (label + 2) 14)) ssrc index) n
      ∙ ap₂ (λ (k s : List ℕ). counter_mode k (initial_counter (from_bytes s) ssrc index) n) (derived-is-prf key salt label 16) (derived-is-prf key salt (label + 2) 14);
  tag = λ n m. ap (take n) (hmac_with-key (derived key salt (label + 1) 20) m ∙ ap (λ (k : List ℕ). hmac k m) (derived-is-prf key salt (label + 1) 20));
}
