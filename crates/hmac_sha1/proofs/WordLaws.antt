-- Laws of words: Ch in three operations, and the sum of a round in another order. Assumes nothing.
use Rattle.std.proofs.Common.{◌≡◌, ℕ, zero, suc, ◌+◌, ◌-◌, ◌*◌, ◌/◌, ◌%◌, ◌^◌, ◌<◌, ◌≤◌, List, [], ◌∷◌, length, get_or, take, drop, add-zero, length-drop, get_or-drop, sym, refl, ap, ◌∙◌, ap₂, mod-lt, pow-suc, div-add-mod', arith, lit<}
use native.Mathlib.Nat.{mod-add-mod}
use lib.Bits.{bit_and, bit_or, bit_xor, or_shifted, and_shr, and_mod, xor_shr, xor_mod}
use Rattle.octets.specs.BigEndian.{from_bytes}
use Rattle.hmac_sha1.specs.Sha1.{add}

-- ---- Ch, over the width

-- the form with three operations, and the standard's where `c` is the complement of x
abbrev short : ℕ → ℕ → ℕ → ℕ
short x y z = bit_xor z (bit_and x (bit_xor y z))

abbrev long : ℕ → ℕ → ℕ → ℕ → ℕ
long c x y z = bit_xor (bit_and x y) (bit_and c z)

same-digit : (x y z : ℕ) → x < 2 → y < 2 → z < 2 → short x y z ≡ long (1 - x) x y z
same-digit zero y zero h k l = refl
same-digit zero y (suc zero) h k l = refl
same-digit zero y (suc (suc z)) h k l = omega arith
same-digit (suc zero) zero zero h k l = refl
same-digit (suc zero) zero (suc zero) h k l = refl
same-digit (suc zero) zero (suc (suc z)) h k l = omega arith
same-digit (suc zero) (suc zero) zero h k l = refl
same-digit (suc zero) (suc zero) (suc zero) h k l = refl
same-digit (suc zero) (suc zero) (suc (suc z)) h k l = omega arith
same-digit (suc zero) (suc (suc y)) z h k l = omega arith
same-digit (suc (suc x)) y z h k l = omega arith

short-half : (x y z : ℕ) → short x y z / 2 ≡ short (x / 2) (y / 2) (z / 2)
short-half x y z = xor_shr z (bit_and x (bit_xor y z)) 1 ∙ ap (bit_xor (z / 2)) (and_shr x (bit_xor y z) 1 ∙ ap (bit_and (x / 2)) (xor_shr y z 1))

short-odd : (x y z : ℕ) → short x y z % 2 ≡ short (x % 2) (y % 2) (z % 2)
short-odd x y z = xor_mod z (bit_and x (bit_xor y z)) 1 ∙ ap (bit_xor (z % 2)) (and_mod x (bit_xor y z) 1 ∙ ap (bit_and (x % 2)) (xor_mod y z 1))

long-half : (c x y z : ℕ) → long c x y z / 2 ≡ long (c / 2) (x / 2) (y / 2) (z / 2)
long-half c x y z = xor_shr (bit_and x y) (bit_and c z) 1 ∙ ap₂ bit_xor (and_shr x y 1) (and_shr c z 1)

long-odd : (c x y z : ℕ) → long c x y z % 2 ≡ long (c % 2) (x % 2) (y % 2) (z % 2)
long-odd c x y z = xor_mod (bit_and x y) (bit_and c z) 1 ∙ ap₂ bit_xor (and_mod x y 1) (and_mod c z 1)

bit-lt : (n : ℕ) → n % 2 < 2
bit-lt n = mod-lt n (lit< tt)

same_digits : (a b : ℕ) → a / 2 ≡ b / 2 → a % 2 ≡ b % 2 → a ≡ b
same_digits a b e f = sym (div-add-mod' a 2) ∙ ap₂ (λ (x y : ℕ). x * 2 + y) e f ∙ div-add-mod' b 2

pub short-is : (k x y z : ℕ) → x < 2 ^ k → y < 2 ^ k → z < 2 ^ k → short x y z ≡ long (2 ^ k - 1 - x) x y z
short-is zero zero y zero h i j = refl
short-is zero zero y (suc z) h i j = omega arith
short-is zero (suc x) y z h i j = omega arith
short-is (suc k) x y z h i j =
    let p : 2 ^ suc k ≡ 2 ^ k * 2 = pow-suc 2 k in
    let c : (2 ^ suc k - 1 - x) / 2 ≡ 2 ^ k - 1 - x / 2 = omega arith in
    let d : (2 ^ suc k - 1 - x) % 2 ≡ 1 - x % 2 = omega arith in
    same_digits (short x y z) (long (2 ^ suc k - 1 - x) x y z)
    (short-half x y z ∙ short-is k (x / 2) (y / 2) (z / 2) (omega arith) (omega arith) (omega arith)
    ∙ ap (λ (n : ℕ). long n (x / 2) (y / 2) (z / 2)) (sym c) ∙ sym (long-half (2 ^ suc k - 1 - x) x y z))
    (short-odd x y z ∙ same-digit (x % 2) (y % 2) (z % 2) (bit-lt x) (bit-lt y) (bit-lt z)
    ∙ ap (λ (n : ℕ). long n (x % 2) (y % 2) (z % 2)) (sym d) ∙ sym (long-odd (2 ^ suc k - 1 - x) x y z))

-- ---- the sum of a round

sum_of : (a b c d e : ℕ) → add (add (add (add a b) c) d) e ≡ (a + b + c + d + e) % 2 ^ 32
sum_of a b c d e =
    ap (λ (n : ℕ). ((n + d) % 2 ^ 32 + e) % 2 ^ 32) (mod-add-mod (a + b) (2 ^ 32) c)
    ∙ ap (λ (n : ℕ). (n + e) % 2 ^ 32) (mod-add-mod (a + b + c) (2 ^ 32) d)
    ∙ mod-add-mod (a + b + c + d) (2 ^ 32) e

pub sum-order : (r f e k w : ℕ) → add (add (add (add e w) k) f) r ≡ add (add (add (add r f) e) k) w
sum-order r f e k w =
    let o : e + w + k + f + r ≡ r + f + e + k + w = omega arith in
    sum_of e w k f r ∙ ap (λ (n : ℕ). n % 2 ^ 32) o ∙ sym (sum_of r f e k w)

-- ---- the word that four bytes of a block spell, by shifts

spelled : (a b c d : ℕ) → a < 2 ^ 8 → b < 2 ^ 8 → c < 2 ^ 8 → d < 2 ^ 8
    → bit_or (bit_or (bit_or (a * 2 ^ 24 % 2 ^ 32) (b * 2 ^ 16 % 2 ^ 32)) (c * 2 ^ 8 % 2 ^ 32)) d ≡ from_bytes (a ∷ b ∷ c ∷ d ∷ [])
spelled a b c d h i j k =
    let x : a * 2 ^ 24 % 2 ^ 32 ≡ a * 2 ^ 24 = omega arith in
    let y : b * 2 ^ 16 % 2 ^ 32 ≡ b * 2 ^ 16 = omega arith in
    let z : c * 2 ^ 8 % 2 ^ 32 ≡ c * 2 ^ 8 = omega arith in
    let p : bit_or (a * 2 ^ 24) (b * 2 ^ 16) ≡ (a * 2 ^ 8 + b) * 2 ^ 16 = or_shifted a 24 (b * 2 ^ 16) (omega arith) ∙ omega arith in
    let q : bit_or ((a * 2 ^ 8 + b) * 2 ^ 16) (c * 2 ^ 8) ≡ ((a * 2 ^ 8 + b) * 2 ^ 8 + c) * 2 ^ 8 = or_shifted (a * 2 ^ 8 + b) 16 (c * 2 ^ 8) (omega arith) ∙ omega arith in
    ap (λ (n : ℕ). bit_or n d) (ap₂ bit_or (ap₂ bit_or x y ∙ p) z ∙ q) ∙ or_shifted ((a * 2 ^ 8 + b) * 2 ^ 8 + c) 8 d k ∙ omega arith

first-four : (l : List ℕ) → 4 ≤ length l → take 4 l ≡ get_or l 0 0 ∷ get_or l 1 0 ∷ get_or l 2 0 ∷ get_or l 3 0 ∷ []
first-four [] h = absurd (omega arith)
first-four (a ∷ []) h = absurd (omega arith)
first-four (a ∷ b ∷ []) h = absurd (omega arith)
first-four (a ∷ b ∷ c ∷ []) h = absurd (omega arith)
first-four (a ∷ b ∷ c ∷ d ∷ l) h = refl

module _ (m : List ℕ) (i : ℕ) (l : i + 4 ≤ length m) where
  pub word-spelled : get_or m i 0 < 2 ^ 8 → get_or m (i + 1) 0 < 2 ^ 8 → get_or m (i + 2) 0 < 2 ^ 8 → get_or m (i + 3) 0 < 2 ^ 8
      → bit_or (bit_or (bit_or (get_or m i 0 * 2 ^ 24 % 2 ^ 32) (get_or m (i + 1) 0 * 2 ^ 16 % 2 ^ 32)) (get_or m (i + 2) 0 * 2 ^ 8 % 2 ^ 32)) (get_or m (i + 3) 0)
      ≡ from_bytes (take 4 (drop i m))
  word-spelled a b c d =
      spelled (get_or m i 0) (get_or m (i + 1) 0) (get_or m (i + 2) 0) (get_or m (i + 3) 0) a b c d
      ∙ ap from_bytes (sym (simp (get_or-drop, add-zero) at (first-four (drop i m) (omega (arith, length-drop i m)))))
