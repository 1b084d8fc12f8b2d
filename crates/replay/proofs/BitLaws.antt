-- Bits of a word: what taking n bits of it, a shift and an `or` do to them. Assumes nothing.
use mathlib.Core.Path.{◌≡◌, refl, sym, ap, ◌∙◌}
use mathlib.Core.Bool.{Bool, true, false, cond, ◌||◌, or-false}
use Prim.Native.Nat.{ℕ, ◌+◌, ◌-◌, ◌*◌, ◌/◌, ◌%◌, ◌^◌, ◌<◌, ◌≤◌, max}
use native.Mathlib.Nat.{mul_assoc, mul-mod_left, add-zero}
use native.Mathlib.Omega.{arith}
use lib.Dec.{ltb, eqb}
use lib.Pow.{pow_pos, pow-add}
use lib.Bits.{bit_or}
use borrow.Author.Tests.{ltb-true, ltb-false, ne_eqb, eqb-true, eqb-false}
use Rattle.std.specs.Int.{bit_at}
use Rattle.std.proofs.lemmas.Nat.{shr_split}
use Rattle.std.proofs.lemmas.Nat.Bits.{bit_at-zero, bit_at-lt, bit_at_or, bit_at-pow_same, bit_at-pow_other, bit_at_cat_low, bit_at_cat_high}
use Rattle.std.proofs.lemmas.Bool.Decides.{nat_tests}
use Rattle.replay.specs.Row.{bit}

pub bit-zero : (k : ℕ) → bit 0 k ≡ false
bit-zero k = rw (bit_at-zero k)

-- ---- a bit below n stays when n bits are taken
pub bit-mod : (b n k : ℕ) → k < n → bit (b % 2 ^ n) k ≡ bit b k
bit-mod b n k l = ap (λ (x : ℕ). eqb x 1) (sym (rw (shr_split b n) at (bit_at_cat_low (b / 2 ^ n) n (b % 2 ^ n) k l)))

-- ---- shifted up by d: bit d + k is what bit k was, and the lowest d bits are 0
bit-shl : (b d k : ℕ) → d ≤ k → bit (b * 2 ^ d) k ≡ bit b (k - d)
bit-shl b d k l = ap (λ (x : ℕ). eqb x 1) (rw (add-zero (b * 2 ^ d)) at (bit_at_cat_high b d 0 k (pow_pos d) l))

bit-shl_low : (b d k : ℕ) → k < d → bit (b * 2 ^ d) k ≡ false
bit-shl_low b d k l = ap (λ (x : ℕ). eqb x 1) ((rw (add-zero (b * 2 ^ d)) at (bit_at_cat_low b d 0 k l)) ∙ bit_at-zero k)

-- moved up by n or more, n bits hold nothing of it
pub moved_out : (n b d : ℕ) → n ≤ d → b * 2 ^ d % 2 ^ n ≡ 0
moved_out n b d l =
    let e : d ≡ (d - n) + n = omega arith in
    ap (λ (x : ℕ). b * 2 ^ x % 2 ^ n) e ∙ rw (pow-add 2 (d - n) n, ← mul_assoc b (2 ^ (d - n)) (2 ^ n)) (mul-mod_left (b * 2 ^ (d - n)) (2 ^ n))

-- ---- 1 << j has bit j and no other
pub bit-power : (j k : ℕ) → bit (2 ^ j) k ≡ eqb k j
bit-power j k = go (eqb k j) refl
  where
    go : (x : Bool) → eqb k j ≡ x → bit (2 ^ j) k ≡ x
    go true e = rw (eqb-true k j e, bit_at-pow_same j)
    go false e = rw (bit_at-pow_other j k (eqb-false k j e))

-- ---- the bits of an `or`
bit-or : (a b k : ℕ) → bit (bit_or a b) k ≡ (bit a k || bit b k)
bit-or a b k = rw (bit_at_or a b k) (two (bit_at a k) (bit_at b k) (bit_at-lt a k) (bit_at-lt b k))
  where
    two : (x y : ℕ) → x < 2 → y < 2 → eqb (max x y) 1 ≡ (eqb x 1 || eqb y 1)
    two x y hx hy = grind (arith, nat_tests)

-- ---- the two ways in which a window's word changes: bit j is set; or it moves up by d within n bits, and bit 0 is set
pub bit-set : (b j k : ℕ) → bit (bit_or b (2 ^ j)) k ≡ (bit b k || eqb k j)
bit-set b j k = bit-or b (2 ^ j) k ∙ rw (bit-power j k)

pub bit_moved : (n b d k : ℕ) → 0 < d → k < n → bit (bit_or (b * 2 ^ d % 2 ^ n) 1) k ≡ cond (ltb k d) (eqb k 0) (bit b (k - d))
bit_moved n b d k hd hk = bit-set (b * 2 ^ d % 2 ^ n) 0 k ∙ rw (bit-mod (b * 2 ^ d) n k hk) (go (ltb k d) refl)
  where
    go : (x : Bool) → ltb k d ≡ x → (bit (b * 2 ^ d) k || eqb k 0) ≡ cond x (eqb k 0) (bit b (k - d))
    go true e = rw (bit-shl_low b d k (ltb-true _ _ e))
    go false e =
        let l : d ≤ k = ltb-false _ _ e in
        rw (bit-shl b d k l, ne_eqb k 0 (λ p. omega arith)) (or-false (bit b (k - d)))
