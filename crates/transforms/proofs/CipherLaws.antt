-- Laws of the ciphers (RFC 3711, 4.1). `stream` is a function of cipher, session keys, SSRC, index, clear part and length, so these fix
-- it; what it has besides is said for each cipher first, and all that follows is from that alone. Assumes nothing.
use mathlib.Core.List.{List, [], ◌∷◌, ◌++◌}
use mathlib.Core.Path.{◌≡◌, refl, sym, ap, ap₂, ◌∙◌}
use Prim.Native.Nat.{ℕ, zero, suc, ◌+◌, ◌-◌, ◌≤◌}
use native.Mathlib.Nat.{zero-add, le_of_suc-le-suc}
use native.Mathlib.Omega.{arith}
use lib.Bits.{xor_zero_r}
use lib.Dec.{lit<}
use lib.ListN.{length, take, drop, replicate, length-replicate, replicate-append-replicate}
use lib.Seq.{take_at, drop_at}
use Rattle.octets.proofs.XorLaws.{bytes-xors}
use Rattle.octets.specs.BigEndian.{Bytes, from_bytes}
use Rattle.octets.specs.Xor.{xors}
use Rattle.transforms.specs.Ciphers.{stream, ciphered, ciphered_from}
use Rattle.transforms.specs.CounterMode.{initial_counter}
use Rattle.transforms.specs.declared.Cipher.{Cipher}
use Rattle.transforms.specs.declared.Cipher.TheVariants.{Aes, Null}
use Rattle.transforms.specs.declared.SessionKeys.{SessionKeys}
use Rattle.transforms.proofs.KeystreamLaws.{length-keystream, bytes-keystream, take-keystream}
use Rattle.transforms.proofs.StreamLaws.{length-under, length-under_from, under_twice, under-injective, under_from-append}

-- ---- zeros, the stream of the NULL cipher

abbrev zeros : ℕ → List ℕ
zeros n = replicate n 0

bytes-zeros : (n : ℕ) → Bytes (zeros n)
bytes-zeros zero = tt
bytes-zeros (suc n) = (lit< tt, bytes-zeros n)

zeros-parts : (m n : ℕ) → m ≤ n → zeros n ≡ zeros m ++ zeros (n - m)
zeros-parts m n h =
    let e : n ≡ m + (n - m) = omega arith in
    ap zeros e ∙ sym (replicate-append-replicate m (n - m) 0)

take-zeros : (m n : ℕ) → m ≤ n → take m (zeros n) ≡ zeros m
take-zeros m n h = ap (take m) (zeros-parts m n h) ∙ take_at (zeros m) (zeros (n - m)) m (length-replicate m 0)

xors-zeros : (a : List ℕ) (n : ℕ) → length a ≤ n → xors a (zeros n) ≡ a
xors-zeros [] n h = refl
xors-zeros (x ∷ a) zero h = let z : ⊥ = omega arith in absurd z
xors-zeros (x ∷ a) (suc n) h = ap₂ (λ (y : ℕ) (l : List ℕ). y ∷ l) (xor_zero_r x) (xors-zeros a n (le_of_suc-le-suc h))

-- ---- each cipher

module _ (k : SessionKeys) (ssrc index : ℕ) (clear : List ℕ) where
  pub length-stream : (c : Cipher) (n : ℕ) → length (stream c k ssrc index clear n) ≡ n
  unfolding stream
  length-stream Aes n = length-keystream k.round (initial_counter (from_bytes k.salt) ssrc index) n
  length-stream Null n = length-replicate n 0

  -- a shorter stream is the beginning of a longer one
  pub take-stream : (c : Cipher) (m n : ℕ) → m ≤ n → take m (stream c k ssrc index clear n) ≡ stream c k ssrc index clear m
  unfolding stream
  take-stream Aes = take-keystream k.round (initial_counter (from_bytes k.salt) ssrc index)
  take-stream Null = take-zeros

  pub bytes-stream : (c : Cipher) (n : ℕ) → Bytes (stream c k ssrc index clear n)
  unfolding stream
  bytes-stream Aes n = bytes-keystream k.round (initial_counter (from_bytes k.salt) ssrc index) n
  bytes-stream Null n = bytes-zeros n

  -- 4.1.3: the NULL cipher leaves the text as it is
  pub null-text : (start : ℕ) (text : List ℕ) → ciphered_from start Null k ssrc index clear text ≡ text
  unfolding ciphered_from stream
  null-text start text =
      let n : ℕ = start + length text in
      let e : n - start ≡ length text = omega arith in
      ap (xors text) (ap (drop start) (zeros-parts start n (omega arith)) ∙ drop_at (zeros start) (zeros (n - start)) start (length-replicate start 0))
      ∙ xors-zeros text (n - start) (omega arith)

-- ---- every cipher

module _ (c : Cipher) (k : SessionKeys) (ssrc index : ℕ) (clear : List ℕ) where
  size : (n : ℕ) → length (stream c k ssrc index clear n) ≡ n
  size = length-stream k ssrc index clear c

  pub length-ciphered : (text : List ℕ) → length (ciphered c k ssrc index clear text) ≡ length text
  unfolding ciphered
  length-ciphered = length-under (stream c k ssrc index clear) size

  pub length-ciphered_from : (start : ℕ) (text : List ℕ) → length (ciphered_from start c k ssrc index clear text) ≡ length text
  unfolding ciphered_from
  length-ciphered_from = length-under_from (stream c k ssrc index clear) size

  -- deciphering is enciphering
  pub ciphered-twice : (text : List ℕ) → ciphered c k ssrc index clear (ciphered c k ssrc index clear text) ≡ text
  unfolding ciphered
  ciphered-twice = under_twice (stream c k ssrc index clear) size

  -- different texts of one packet's stream come out different
  pub ciphered-injective : (a b : List ℕ) → ciphered c k ssrc index clear a ≡ ciphered c k ssrc index clear b → a ≡ b
  unfolding ciphered
  ciphered-injective = under-injective (stream c k ssrc index clear) size

  pub bytes-ciphered : (text : List ℕ) → Bytes text → Bytes (ciphered c k ssrc index clear text)
  unfolding ciphered
  bytes-ciphered text q = bytes-xors text (stream c k ssrc index clear (length text)) q (bytes-stream k ssrc index clear c (length text))

  -- from the start it is the whole text
  pub ciphered-from-start : (text : List ℕ) → ciphered_from 0 c k ssrc index clear text ≡ ciphered c k ssrc index clear text
  unfolding ciphered_from ciphered
  ciphered-from-start text = ap (λ (n : ℕ). xors text (stream c k ssrc index clear n)) (zero-add (length text))

  -- a text may be cut anywhere and enciphered piece by piece, each at its place
  pub ciphered_from-append : (start : ℕ) (a b : List ℕ)
      → ciphered_from start c k ssrc index clear (a ++ b) ≡ ciphered_from start c k ssrc index clear a ++ ciphered_from (start + length a) c k ssrc index clear b
  unfolding ciphered_from
  ciphered_from-append = under_from-append (stream c k ssrc index clear) size (take-stream k ssrc index clear c)

  pub ciphered-append : (a b : List ℕ) → ciphered c k ssrc index clear (a ++ b) ≡ ciphered c k ssrc index clear a ++ ciphered_from (length a) c k ssrc index clear b
  ciphered-append a b =
      sym (ciphered-from-start (a ++ b))
      ∙ ciphered_from-append 0 a b
      ∙ ap₂ (λ (x : List ℕ) (n : ℕ). x ++ ciphered_from n c k ssrc index clear b) (ciphered-from-start a) (zero-add (length a))
