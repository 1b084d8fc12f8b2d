-- A row of words and its number: each gives the other back, and what the code does to the words is what the number says: a bit tested, a
-- bit set, a shift by less than a word and one by whole words. Over every length of a row. Assumes nothing.
use mathlib.Core.Path.{◌≡◌, refl, sym, ap, ap₂, ◌∙◌}
use mathlib.Core.Bool.{Bool, true, false}
use mathlib.Core.List.{List, [], ◌∷◌, ◌++◌}
use Prim.Native.Nat.{ℕ, zero, suc, ◌+◌, ◌-◌, ◌*◌, ◌/◌, ◌%◌, ◌^◌, ◌≤◌, ◌<◌}
use native.Mathlib.Nat.{mod-lt, mod-one, mul_assoc, mul_right_comm, add-mul, mul-add-mod_self_right}
use native.Mathlib.Omega.{arith}
use lib.ListN.{length, get_or, set, take, replicate}
use lib.Dec.{ltb}
use lib.Arith.{digits_lt}
use lib.Pow.{pow_pos, pow-add, pow-lt, high, low, split, shr-shr, shr_lt, mod-pow-add}
use lib.Bits.{bit_or, or_block, or_zero_r, or_lt, or_shifted}
use borrow.Author.Tests.{ltb-true, ltb-false}
use Rattle.std.proofs.lemmas.Nat.Bits.{bit_at_cat_low, bit_at_cat_high}
use Rattle.replay.specs.Row.{bit, from_words, to_words}
use Rattle.replay.proofs.BitLaws.{bit-zero}

-- each is a word
abbrev pub Words : List ℕ → Type 0
Words ws = (j : ℕ) → get_or ws j 0 < 2 ^ 64

tail : (w : ℕ) (ws : List ℕ) → Words (w ∷ ws) → Words ws
tail w ws h j = h (suc j)

-- ---- there and back
to-cons : (m q r : ℕ) → r < 2 ^ 64 → to_words (suc m) (q * 2 ^ 64 + r) ≡ r ∷ to_words m q
unfolding to_words
to-cons m q r l = ap₂ (λ (y : ℕ) (z : ℕ). y ∷ to_words m z) (low q 64 l) (high q 64 l)

pub from-to : (m x : ℕ) → from_words (to_words m x) ≡ x % 2 ^ (64 * m)
unfolding from_words to_words
from-to zero x = sym (mod-one x)
from-to (suc m) x =
    let e : 64 * suc m ≡ 64 * m + 64 = omega arith in
    rw e (ap (λ (y : ℕ). y * 2 ^ 64 + x % 2 ^ 64) (from-to m (x / 2 ^ 64)) ∙ sym (mod-pow-add x (64 * m) 64))

pub to-from : (ws : List ℕ) → Words ws → to_words (length ws) (from_words ws) ≡ ws
unfolding from_words to_words
to-from [] h = refl
to-from (w ∷ ws) h = to-cons (length ws) (from_words ws) w (h 0) ∙ ap (λ (ys : List ℕ). w ∷ ys) (to-from ws (tail w ws h))

length_to : (m x : ℕ) → length (to_words m x) ≡ m
unfolding to_words
length_to zero x = refl
length_to (suc m) x = ap suc (length_to m (x / 2 ^ 64))

words-to : (m x : ℕ) → Words (to_words m x)
unfolding to_words
words-to zero x j = pow_pos 64
words-to (suc m) x zero = mod-lt x (pow_pos 64)
words-to (suc m) x (suc j) = words-to m (x / 2 ^ 64) j

pub from-zeros : (m : ℕ) → from_words (replicate m 0) ≡ 0
unfolding from_words
from-zeros zero = refl
from-zeros (suc m) = rw (from-zeros m)

-- only what the words hold of a number counts
pub to-mod : (m x : ℕ) → to_words m (x % 2 ^ (64 * m)) ≡ to_words m x
to-mod m x =
    ap (to_words m) (sym (from-to m x))
    ∙ ap (λ (k : ℕ). to_words k (from_words (to_words m x))) (sym (length_to m x))
    ∙ to-from (to_words m x) (words-to m x)

-- ---- a bit
pub row-bit : (ws : List ℕ) (k : ℕ) → Words ws → bit (from_words ws) k ≡ bit (get_or ws (k / 64) 0) (k % 64)
unfolding from_words
row-bit [] k h = rw (bit-zero k, bit-zero (k % 64))
row-bit (w ∷ ws) k h = go (ltb k 64) refl (row-bit ws (k - 64) (tail w ws h))
  where
    go : (x : Bool) → ltb k 64 ≡ x → bit (from_words ws) (k - 64) ≡ bit (get_or ws ((k - 64) / 64) 0) ((k - 64) % 64)
        → bit (from_words ws * 2 ^ 64 + w) k ≡ bit (get_or (w ∷ ws) (k / 64) 0) (k % 64)
    go true e ih =
        let l : k < 64 = ltb-true _ _ e in
        let p : k / 64 ≡ 0 = omega arith in
        let q : k % 64 ≡ k = omega arith in
        rw (p, q, bit_at_cat_low (from_words ws) 64 w k l)
    go false e ih =
        let l : 64 ≤ k = ltb-false _ _ e in
        let p : k / 64 ≡ suc ((k - 64) / 64) = omega arith in
        let q : k % 64 ≡ (k - 64) % 64 = omega arith in
        rw (p, q, bit_at_cat_high (from_words ws) 64 w k (h 0) l) ih

pub row-set : (ws : List ℕ) (j x : ℕ) → Words ws → j < length ws → x < 64 →
    set ws j (bit_or (get_or ws j 0) (2 ^ x)) ≡ to_words (length ws) (bit_or (from_words ws) (2 ^ (64 * j + x)))
unfolding from_words
row-set [] j x h l m = let z : ⊥ = omega arith in absurd z
row-set (w ∷ ws) zero x h l m =
    let e : 64 * 0 + x ≡ x = omega arith in
    let f : 2 ^ x ≡ 0 * 2 ^ 64 + 2 ^ x = omega arith in
    sym (ap (λ (y : ℕ). to_words (suc (length ws)) (bit_or (from_words ws * 2 ^ 64 + w) y)) (ap (λ (y : ℕ). 2 ^ y) e ∙ f)
    ∙ ap (to_words (suc (length ws))) (or_block 64 (from_words ws) 0 w (2 ^ x) (h 0) (pow-lt m) ∙ rw (or_zero_r (from_words ws)))
    ∙ to-cons (length ws) (from_words ws) (bit_or w (2 ^ x)) (or_lt 64 w (2 ^ x) (h 0) (pow-lt m))
    ∙ ap (λ (ys : List ℕ). bit_or w (2 ^ x) ∷ ys) (to-from ws (tail w ws h)))
row-set (w ∷ ws) (suc j) x h l m =
    let e : 64 * suc j + x ≡ (64 * j + x) + 64 = omega arith in
    let f : 2 ^ (64 * j + x) * 2 ^ 64 ≡ 2 ^ (64 * j + x) * 2 ^ 64 + 0 = omega arith in
    sym (ap (λ (y : ℕ). to_words (suc (length ws)) (bit_or (from_words ws * 2 ^ 64 + w) y)) (ap (λ (y : ℕ). 2 ^ y) e ∙ pow-add 2 (64 * j + x) 64 ∙ f)
    ∙ ap (to_words (suc (length ws))) (or_block 64 (from_words ws) (2 ^ (64 * j + x)) w 0 (h 0) (pow_pos 64) ∙ rw (or_zero_r w))
    ∙ to-cons (length ws) (bit_or (from_words ws) (2 ^ (64 * j + x))) w (h 0)
    ∙ ap (λ (ys : List ℕ). w ∷ ys) (sym (row-set ws j x (tail w ws h) (omega arith) m)))

-- ---- a shift by less than a word. What the loop writes for the words ws, where c are the bits that left the word before them
unfoldable pub carried : (d c : ℕ) → List ℕ → List ℕ
carried d c [] = []
carried d c (w ∷ ws) = bit_or (w * 2 ^ d % 2 ^ 64) c ∷ carried d (w / 2 ^ 1 / 2 ^ (63 - d)) ws

-- where w is u * p + v, and p * d is q
module _ (q w d p u v : ℕ) (e : u * p + v ≡ w) (g : p * d ≡ q) where
  parted : w * d ≡ u * q + v * d
  parted = ap (λ (x : ℕ). x * d) (sym e) ∙ add-mul (u * p) v d ∙ ap (λ (x : ℕ). x + v * d) (mul_assoc u p d ∙ ap (λ (x : ℕ). u * x) g)

  regroup : (f c : ℕ) → (f * q + w) * d + c ≡ (f * d + u) * q + (v * d + c)
  regroup f c =
      let a : (f * q + w) * d ≡ f * q * d + w * d = add-mul (f * q) w d in
      let b : f * q * d ≡ f * d * q = mul_right_comm f q d in
      let r : (f * d + u) * q ≡ f * d * q + u * q = add-mul (f * d) u q in
      omega (arith, parted)

module _ (d : ℕ) (l : d < 64) where
  whole : 2 ^ (64 - d) * 2 ^ d ≡ 2 ^ 64
  whole = let e : 64 - d + d ≡ 64 = omega arith in sym (pow-add 2 (64 - d) d) ∙ ap (λ (y : ℕ). 2 ^ y) e

  leaves : (w : ℕ) → w / 2 ^ 1 / 2 ^ (63 - d) ≡ w / 2 ^ (64 - d)
  leaves w = let e : 1 + (63 - d) ≡ 64 - d = omega arith in shr-shr w 1 (63 - d) ∙ ap (λ (y : ℕ). w / 2 ^ y) e

  stays : (w : ℕ) → w * 2 ^ d % 2 ^ 64 ≡ w % 2 ^ (64 - d) * 2 ^ d
  stays w =
      ap (λ (y : ℕ). y % 2 ^ 64) (parted (2 ^ 64) w (2 ^ d) (2 ^ (64 - d)) (w / 2 ^ (64 - d)) (w % 2 ^ (64 - d)) (split w (64 - d)) whole)
      ∙ low (w / 2 ^ (64 - d)) 64 (rw (← whole) (omega (arith, digits_lt (mod-lt w (pow_pos (64 - d))) (pow_pos d))))

  pub carried-is : (c : ℕ) (ws : List ℕ) → c < 2 ^ d → Words ws → carried d c ws ≡ to_words (length ws) (from_words ws * 2 ^ d + c)
  unfolding carried from_words to_words
  carried-is c [] m h = refl
  carried-is c (w ∷ ws) m h =
      let v : w % 2 ^ (64 - d) * 2 ^ d + c < 2 ^ 64 = rw (← whole) (digits_lt (mod-lt w (pow_pos (64 - d))) m) in
      let o : bit_or (w * 2 ^ d % 2 ^ 64) c ≡ w % 2 ^ (64 - d) * 2 ^ d + c =
      ap (λ (y : ℕ). bit_or y c) (stays w) ∙ or_shifted (w % 2 ^ (64 - d)) d c m in
      let u : w / 2 ^ (64 - d) < 2 ^ d = shr_lt d (64 - d) (let e : d + (64 - d) ≡ 64 = omega arith in rw e (h 0)) in
      ap₂ (λ (y : ℕ) (ys : List ℕ). y ∷ ys) o
      (ap (λ (y : ℕ). carried d y ws) (leaves w) ∙ carried-is (w / 2 ^ (64 - d)) ws u (tail w ws h))
      ∙ sym (ap (to_words (suc (length ws)))
      (regroup (2 ^ 64) w (2 ^ d) (2 ^ (64 - d)) (w / 2 ^ (64 - d)) (w % 2 ^ (64 - d)) (split w (64 - d)) whole (from_words ws) c)
      ∙ to-cons (length ws) (from_words ws * 2 ^ d + w / 2 ^ (64 - d)) (w % 2 ^ (64 - d) * 2 ^ d + c) v)

-- ---- a shift by whole words
pub lifted-is : (q m : ℕ) (ws : List ℕ) → Words ws → m ≤ length ws → take m (replicate q 0 ++ ws) ≡ to_words m (from_words ws * 2 ^ (64 * q))
unfolding from_words to_words
lifted-is q zero ws h l = refl
lifted-is zero (suc m) [] h l = let z : ⊥ = omega arith in absurd z
lifted-is zero (suc m) (w ∷ ws) h l =
    let e : (from_words ws * 2 ^ 64 + w) * 2 ^ (64 * 0) ≡ from_words ws * 2 ^ 64 + w = omega arith in
    let f : from_words ws * 2 ^ (64 * 0) ≡ from_words ws = omega arith in
    ap (λ (ys : List ℕ). w ∷ ys) (lifted-is zero m ws (tail w ws h) (omega arith) ∙ ap (to_words m) f)
    ∙ sym (ap (to_words (suc m)) e ∙ to-cons m (from_words ws) w (h 0))
lifted-is (suc q) (suc m) ws h l =
    let e : 64 * suc q ≡ 64 * q + 64 = omega arith in
    let f : from_words ws * 2 ^ (64 * q) * 2 ^ 64 ≡ from_words ws * 2 ^ (64 * q) * 2 ^ 64 + 0 = omega arith in
    ap (λ (ys : List ℕ). 0 ∷ ys) (lifted-is q m ws h (omega arith))
    ∙ sym (ap (to_words (suc m)) (rw (e, pow-add 2 (64 * q) 64) (sym (mul_assoc (from_words ws) (2 ^ (64 * q)) (2 ^ 64)) ∙ f))
    ∙ to-cons m (from_words ws * 2 ^ (64 * q)) 0 (pow_pos 64))

-- and then by less than a word: what the words lost before is lost anyway
pub shift-twice : (m x i j : ℕ) → to_words m (from_words (to_words m (x * 2 ^ i)) * 2 ^ j) ≡ to_words m (x * 2 ^ (i + j))
shift-twice m x i j =
    rw (from-to m (x * 2 ^ i)) (sym (to-mod m (x * 2 ^ i % 2 ^ (64 * m) * 2 ^ j)) ∙ ap (to_words m) lost ∙ to-mod m (x * 2 ^ (i + j)))
  where
    lost : x * 2 ^ i % 2 ^ (64 * m) * 2 ^ j % 2 ^ (64 * m) ≡ x * 2 ^ (i + j) % 2 ^ (64 * m)
    lost =
        let n = 2 ^ (64 * m) in
        let y = x * 2 ^ i in
        sym (ap (λ (z : ℕ). z % n) (sym (mul_assoc x (2 ^ i) (2 ^ j) ∙ ap (λ (z : ℕ). x * z) (sym (pow-add 2 i j)))
        ∙ ap (λ (z : ℕ). z * 2 ^ j) (sym (split y (64 * m))) ∙ add-mul (y / n * n) (y % n) (2 ^ j)
        ∙ ap (λ (z : ℕ). z + y % n * 2 ^ j) (mul_right_comm (y / n) n (2 ^ j)))
        ∙ mul-add-mod_self_right (y / n * 2 ^ j) n (y % n * 2 ^ j))
