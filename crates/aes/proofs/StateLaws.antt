-- A state as four columns, under AddRoundKey and when loaded. Assumes nothing.
use mathlib.Core.List.{List, [], ◌∷◌, ◌++◌}
use mathlib.Core.Path.{◌≡◌, refl, sym, ap, ap₂, ◌∙◌}
use Prim.Native.Nat.{ℕ, zero, suc, ◌+◌, ◌^◌, ◌<◌}
use native.Mathlib.Omega.{arith}
use lib.Bits.{bit_xor}
use lib.ListN.{take, drop, get_or}
use lib.Seq.{take-add, drop-drop}
use Rattle.std.proofs.lemmas.Nat.{be_bytes_4}
use Rattle.std.specs.Int.{w32, from_be_bytes}
use Rattle.octets.proofs.BigEndianLaws.{to_bytes-xor}
use Rattle.octets.specs.BigEndian.{to_bytes}
use Rattle.octets.specs.Xor.{xors}
use Rattle.aes.specs.Cipher.{add_round_key}
use Rattle.aes.specs.Columns.{block, added_to}
use Rattle.aes.specs.declared.State.{State}

-- a column with a key word added
pub added-word : (x k : ℕ) {b : List ℕ} → to_bytes 4 x ≡ b → to_bytes 4 (bit_xor x k) ≡ xors b (to_bytes 4 k)
added-word x k e = to_bytes-xor 4 x k ∙ ap (λ (l : List ℕ). xors l (to_bytes 4 k)) e

-- four of them
pub added-words :
    (x₀ x₁ x₂ x₃ k₀ k₁ k₂ k₃ : ℕ) {b₀ b₁ b₂ b₃ : List ℕ} → to_bytes 4 x₀ ≡ b₀ → to_bytes 4 x₁ ≡ b₁ → to_bytes 4 x₂ ≡ b₂ → to_bytes 4 x₃ ≡ b₃
    → to_bytes 4 (bit_xor x₀ k₀) ++ to_bytes 4 (bit_xor x₁ k₁) ++ to_bytes 4 (bit_xor x₂ k₂) ++ to_bytes 4 (bit_xor x₃ k₃)
    ≡ xors b₀ (to_bytes 4 k₀) ++ xors b₁ (to_bytes 4 k₁) ++ xors b₂ (to_bytes 4 k₂) ++ xors b₃ (to_bytes 4 k₃)
added-words x₀ x₁ x₂ x₃ k₀ k₁ k₂ k₃ e₀ e₁ e₂ e₃ =
    ap₂ ◌++◌ (ap₂ ◌++◌ (ap₂ ◌++◌ (added-word x₀ k₀ e₀) (added-word x₁ k₁ e₁)) (added-word x₂ k₂ e₂)) (added-word x₃ k₃ e₃)

-- the word that four bytes spell has those bytes
pub bytes_of-four : (p q r s n : ℕ) → p < 2 ^ 8 → q < 2 ^ 8 → r < 2 ^ 8 → s < 2 ^ 8 → n ≡ from_be_bytes w32 (p ∷ q ∷ r ∷ s ∷ []) → to_bytes 4 n ≡ p ∷ q ∷ r ∷ s ∷ []
bytes_of-four p q r s n hp hq hr hs e = be_bytes_4 (p ∷ q ∷ r ∷ s ∷ []) n refl each e
  where
    each : (i : ℕ) → get_or (p ∷ q ∷ r ∷ s ∷ []) i 0 < 256
    each zero = hp
    each (suc zero) = hq
    each (suc (suc zero)) = hr
    each (suc (suc (suc zero))) = hs
    each (suc (suc (suc (suc i)))) = omega arith

-- AddRoundKey
pub added-to : (s k : State) → block (added_to s k) ≡ add_round_key (block s) (block k)
added-to s k = added-words s.c0 s.c1 s.c2 s.c3 k.c0 k.c1 k.c2 k.c3 refl refl refl refl

next-four : (s : List ℕ) (at n : ℕ) → take n (drop at s) ++ take 4 (drop (at + n) s) ≡ take (n + 4) (drop at s)
next-four s at n = sym (take-add n 4 (drop at s) ∙ ap (λ (l : List ℕ). take n (drop at s) ++ take 4 l) (drop-drop n at s))

-- four words of a list, one behind the other
pub four-words : (s : List ℕ) (at : ℕ) {b₀ b₁ b₂ b₃ : List ℕ}
    → b₀ ≡ take 4 (drop at s) → b₁ ≡ take 4 (drop (at + 4) s) → b₂ ≡ take 4 (drop (at + 8) s) → b₃ ≡ take 4 (drop (at + 12) s)
    → b₀ ++ b₁ ++ b₂ ++ b₃ ≡ take 16 (drop at s)
four-words s at p q r t = ap₂ ◌++◌ (ap₂ ◌++◌ (ap₂ ◌++◌ p q ∙ next-four s at 4) r ∙ next-four s at 8) t ∙ next-four s at 12
