-- Laws of XOR: of numbers, and of lists of bytes (length, element, parts, twice is nothing). Assumes nothing.
use mathlib.Core.List.{List, [], ◌∷◌, ◌++◌}
use mathlib.Core.Path.{◌≡◌, refl, sym, ap, ap₂, ◌∙◌}
use Prim.Native.Nat.{ℕ, zero, suc, ◌+◌, ◌*◌, ◌/◌, ◌%◌, ◌<◌, ◌≤◌, min}
use native.Mathlib.Nat.{mod-lt, le_of_suc-le-suc, zero-min, suc-min-suc, min-zero}
use native.Mathlib.Omega.{arith}
use lib.Arith.{bin_ind, digits_div, digits_mod}
use lib.Bits.{bit_xor, differ, xor_step, xor_zero_l, xor_zero_r, xor_self, xor_lt}
use lib.Dec.{lit<}
use lib.ListN.{length, take, drop, get_or}
use Rattle.octets.specs.BigEndian.{Bytes}
use Rattle.octets.specs.Xor.{xors}

-- ---- numbers

digit_lt : (x y : ℕ) → x < 2 → y < 2 → differ x y < 2
digit_lt zero y h k = k
digit_lt (suc zero) zero h k = h
digit_lt (suc zero) (suc zero) h k = lit< tt
digit_lt (suc zero) (suc (suc y)) h k = omega arith
digit_lt (suc (suc x)) y h k = omega arith

digit_assoc : (x y z : ℕ) → x < 2 → y < 2 → z < 2 → differ (differ x y) z ≡ differ x (differ y z)
digit_assoc zero y z h k l = refl
digit_assoc (suc zero) zero z h k l = refl
digit_assoc (suc zero) (suc zero) zero h k l = refl
digit_assoc (suc zero) (suc zero) (suc zero) h k l = refl
digit_assoc (suc zero) (suc zero) (suc (suc z)) h k l = omega arith
digit_assoc (suc zero) (suc (suc y)) z h k l = omega arith
digit_assoc (suc (suc x)) y z h k l = omega arith

bit-lt : (n : ℕ) → n % 2 < 2
bit-lt n = mod-lt n (lit< tt)

half : (a b : ℕ) → bit_xor a b / 2 ≡ bit_xor (a / 2) (b / 2)
half a b = ap (λ (x : ℕ). x / 2) (xor_step a b) ∙ digits_div (bit_xor (a / 2) (b / 2)) (digit_lt (a % 2) (b % 2) (bit-lt a) (bit-lt b))

odd : (a b : ℕ) → bit_xor a b % 2 ≡ differ (a % 2) (b % 2)
odd a b = ap (λ (x : ℕ). x % 2) (xor_step a b) ∙ digits_mod (bit_xor (a / 2) (b / 2)) (digit_lt (a % 2) (b % 2) (bit-lt a) (bit-lt b))

pub xor_assoc : (a b c : ℕ) → bit_xor (bit_xor a b) c ≡ bit_xor a (bit_xor b c)
xor_assoc =
    bin_ind (λ (n : ℕ). (b c : ℕ) → bit_xor (bit_xor n b) c ≡ bit_xor n (bit_xor b c))
    (λ b c. ap (λ (x : ℕ). bit_xor x c) (xor_zero_l b) ∙ sym (xor_zero_l (bit_xor b c)))
    (λ n ih b c.
    xor_step (bit_xor n b) c
    ∙ ap₂ (λ (x y : ℕ). bit_xor x (c / 2) * 2 + differ y (c % 2)) (half n b) (odd n b)
    ∙ ap₂ (λ (x y : ℕ). x * 2 + y) (ih (b / 2) (c / 2)) (digit_assoc (n % 2) (b % 2) (c % 2) (bit-lt n) (bit-lt b) (bit-lt c))
    ∙ ap₂ (λ (x y : ℕ). bit_xor (n / 2) x * 2 + differ (n % 2) y) (sym (half b c)) (sym (odd b c))
    ∙ sym (xor_step n (bit_xor b c)))

pub xor-twice : (a k : ℕ) → bit_xor (bit_xor a k) k ≡ a
xor-twice a k = xor_assoc a k k ∙ ap (bit_xor a) (xor_self k) ∙ xor_zero_r a

-- ---- lists

pub length-xors : (xs ys : List ℕ) → length (xors xs ys) ≡ min (length xs) (length ys)
length-xors [] ys = sym (zero-min (length ys))
length-xors (x ∷ xs) [] = sym (min-zero (length (x ∷ xs)))
length-xors (x ∷ xs) (y ∷ ys) = ap suc (length-xors xs ys) ∙ sym (suc-min-suc (length xs) (length ys))

pub get_or-xors : (xs ys : List ℕ) (i : ℕ) → i < length xs → i < length ys → get_or (xors xs ys) i 0 ≡ bit_xor (get_or xs i 0) (get_or ys i 0)
get_or-xors [] ys i h k = omega arith
get_or-xors (x ∷ xs) [] i h k = omega arith
get_or-xors (x ∷ xs) (y ∷ ys) zero h k = refl
get_or-xors (x ∷ xs) (y ∷ ys) (suc i) h k = get_or-xors xs ys i (le_of_suc-le-suc h) (le_of_suc-le-suc k)

pub bytes-xors : (xs ys : List ℕ) → Bytes xs → Bytes ys → Bytes (xors xs ys)
bytes-xors [] ys p q = tt
bytes-xors (x ∷ xs) [] p q = tt
bytes-xors (x ∷ xs) (y ∷ ys) p q = (xor_lt 8 x y p.0 q.0, bytes-xors xs ys p.1 q.1)

pub take-xors : (n : ℕ) (xs ys : List ℕ) → take n (xors xs ys) ≡ xors (take n xs) ys
take-xors zero [] ys = refl
take-xors zero (x ∷ xs) [] = refl
take-xors zero (x ∷ xs) (y ∷ ys) = refl
take-xors (suc n) [] ys = refl
take-xors (suc n) (x ∷ xs) [] = refl
take-xors (suc n) (x ∷ xs) (y ∷ ys) = ap (λ (l : List ℕ). bit_xor x y ∷ l) (take-xors n xs ys)

drop-nil-xors : (n : ℕ) (xs : List ℕ) → xors (drop n xs) [] ≡ []
drop-nil-xors n xs = none (drop n xs)
  where
    none : (l : List ℕ) → xors l [] ≡ []
    none [] = refl
    none (x ∷ l) = refl

pub drop-xors : (n : ℕ) (xs ys : List ℕ) → drop n (xors xs ys) ≡ xors (drop n xs) (drop n ys)
drop-xors zero xs ys = refl
drop-xors (suc n) [] ys = refl
drop-xors (suc n) (x ∷ xs) [] = sym (drop-nil-xors n xs)
drop-xors (suc n) (x ∷ xs) (y ∷ ys) = drop-xors n xs ys

-- two parts, each with its own
pub xors-append : (a c b d : List ℕ) → length a ≡ length c → xors (a ++ b) (c ++ d) ≡ xors a c ++ xors b d
xors-append [] [] b d e = refl
xors-append [] (y ∷ c) b d e = let z : ⊥ = omega arith in absurd z
xors-append (x ∷ a) [] b d e = let z : ⊥ = omega arith in absurd z
xors-append (x ∷ a) (y ∷ c) b d e = ap (λ (l : List ℕ). bit_xor x y ∷ l) (xors-append a c b d (omega arith))

pub xors-twice : (m s : List ℕ) → length m ≤ length s → xors (xors m s) s ≡ m
xors-twice [] s h = refl
xors-twice (x ∷ m) [] h = let z : ⊥ = omega arith in absurd z
xors-twice (x ∷ m) (y ∷ s) h = ap₂ (λ (a : ℕ) (l : List ℕ). a ∷ l) (xor-twice x y) (xors-twice m s (le_of_suc-le-suc h))

-- what comes out under one s tells what went in
pub xors-injective : (m m' s : List ℕ) → length m ≤ length s → length m' ≤ length s → xors m s ≡ xors m' s → m ≡ m'
xors-injective m m' s h h' e = sym (xors-twice m s h) ∙ ap (λ (l : List ℕ). xors l s) e ∙ xors-twice m' s h'
