-- Laws of big-endian bytes, each over the number n of bytes. Assumes nothing.
use mathlib.Core.List.{List, [], ◌∷◌, ◌++◌}
use mathlib.Core.Path.{◌≡◌, refl, sym, ap, ap₂, ◌∙◌}
use Prim.Native.Nat.{ℕ, zero, suc, ◌+◌, ◌-◌, ◌*◌, ◌/◌, ◌%◌, ◌^◌, ◌<◌, ◌≤◌}
use native.Mathlib.Nat.{mod-lt, mod-one, mod-eq_of_lt, div-one, le_refl, zero-add, suc-add, zero-mul, add-mul, add_assoc, mul_assoc}
use native.Mathlib.Omega.{arith}
use lib.Arith.{digits_lt}
use lib.Bits.{bit_xor, xor_shr, xor_mod}
use lib.Dec.{lit<}
use lib.ListN.{length, get_or, length-append}
use lib.Pow.{high, low, shr-shr, pow_pos, pow-add, mod-pow-add, mod-mod-pow, field}
use Rattle.octets.specs.BigEndian.{Bytes, byte, to_bytes, from_bytes}
use Rattle.octets.specs.Xor.{xors}

-- ---- one byte

pub byte-is : (k v : ℕ) → byte k v ≡ v / 2 ^ (8 * k) % 2 ^ 8
byte-is zero v = ap (λ (n : ℕ). n % 2 ^ 8) (sym (div-one v))
byte-is (suc k) v = refl

pub byte-lt : (k v : ℕ) → byte k v < 2 ^ 8
byte-lt zero v = mod-lt v (pow_pos 8)
byte-lt (suc k) v = mod-lt (v / 2 ^ (8 * suc k)) (pow_pos 8)

pub byte-xor : (k x y : ℕ) → byte k (bit_xor x y) ≡ bit_xor (byte k x) (byte k y)
byte-xor zero x y = xor_mod x y 8
byte-xor (suc k) x y = ap (λ (n : ℕ). n % 2 ^ 8) (xor_shr x y (8 * suc k)) ∙ xor_mod (x / 2 ^ (8 * suc k)) (y / 2 ^ (8 * suc k)) 8

-- byte k above the n lowest
pub byte-up : (k n v : ℕ) → byte (k + n) v ≡ byte k (v / 2 ^ (8 * n))
byte-up k n v =
    let e : 8 * n + 8 * k ≡ 8 * (k + n) = omega arith in
    byte-is (k + n) v
    ∙ sym (byte-is k (v / 2 ^ (8 * n)) ∙ ap (λ (x : ℕ). x % 2 ^ 8) (shr-shr v (8 * n) (8 * k) ∙ ap (λ (m : ℕ). v / 2 ^ m) e))

-- the bytes below the n-th don't see what stands above it
pub byte_low : (k n v : ℕ) → k < n → byte k (v % 2 ^ (8 * n)) ≡ byte k v
byte_low k n v h =
    let e : 8 * n ≡ 8 * (n - (k + 1)) + 8 + 8 * k = omega arith in
    byte-is k (v % 2 ^ (8 * n))
    ∙ ap (λ (m : ℕ). v % 2 ^ m / 2 ^ (8 * k) % 2 ^ 8) e
    ∙ ap (λ (m : ℕ). m % 2 ^ 8) (field v (8 * (n - (k + 1)) + 8) (8 * k))
    ∙ mod-mod-pow (v / 2 ^ (8 * k)) (8 * (n - (k + 1))) 8
    ∙ sym (byte-is k v)

-- ---- length, element, append

pub length-to_bytes : (n v : ℕ) → length (to_bytes n v) ≡ n
length-to_bytes zero v = refl
length-to_bytes (suc n) v = ap suc (length-to_bytes n v)

pub bytes-to_bytes : (n v : ℕ) → Bytes (to_bytes n v)
bytes-to_bytes zero v = tt
bytes-to_bytes (suc n) v = (byte-lt n v, bytes-to_bytes n v)

pub get_or-to_bytes : (n v i : ℕ) → i < n → get_or (to_bytes n v) i 0 ≡ byte (n - (i + 1)) v
get_or-to_bytes zero v i h = omega arith
get_or-to_bytes (suc n) v zero h =
    let e : n ≡ suc n - (0 + 1) = omega arith in
    ap (λ (k : ℕ). byte k v) e
get_or-to_bytes (suc n) v (suc i) h =
    let e : n - (i + 1) ≡ suc n - (suc i + 1) = omega arith in
    get_or-to_bytes n v i (omega arith) ∙ ap (λ (k : ℕ). byte k v) e

pub to_bytes-append : (m n v : ℕ) → to_bytes (m + n) v ≡ to_bytes m (v / 2 ^ (8 * n)) ++ to_bytes n v
to_bytes-append zero n v = ap (λ (k : ℕ). to_bytes k v) (zero-add n)
to_bytes-append (suc m) n v =
    ap (λ (k : ℕ). to_bytes k v) (suc-add m n) ∙ ap₂ (λ (b : ℕ) (l : List ℕ). b ∷ l) (byte-up m n v) (to_bytes-append m n v)

pub to_bytes-low : (m n v : ℕ) → m ≤ n → to_bytes m (v % 2 ^ (8 * n)) ≡ to_bytes m v
to_bytes-low zero n v h = refl
to_bytes-low (suc m) n v h = ap₂ (λ (b : ℕ) (l : List ℕ). b ∷ l) (byte_low m n v h) (to_bytes-low m n v (omega arith))

-- a number above and n bytes below it
pub to_bytes-join : (m n h l : ℕ) → l < 2 ^ (8 * n) → to_bytes (m + n) (h * 2 ^ (8 * n) + l) ≡ to_bytes m h ++ to_bytes n l
to_bytes-join m n h l q =
    to_bytes-append m n (h * 2 ^ (8 * n) + l)
    ∙ ap₂ (λ (x : ℕ) (r : List ℕ). to_bytes m x ++ r) (high h (8 * n) q)
    (sym (to_bytes-low n n (h * 2 ^ (8 * n) + l) (le_refl n)) ∙ ap (to_bytes n) (low h (8 * n) q))

pub to_bytes-xor : (n x y : ℕ) → to_bytes n (bit_xor x y) ≡ xors (to_bytes n x) (to_bytes n y)
to_bytes-xor zero x y = refl
to_bytes-xor (suc n) x y = ap₂ (λ (b : ℕ) (l : List ℕ). b ∷ l) (byte-xor n x y) (to_bytes-xor n x y)

-- ---- the number of a list

pub from_bytes-append : (a b : List ℕ) → from_bytes (a ++ b) ≡ from_bytes a * 2 ^ (8 * length b) + from_bytes b
from_bytes-append [] b = sym (zero-plus (2 ^ (8 * length b)) (from_bytes b))
  where
    zero-plus : (p n : ℕ) → 0 * p + n ≡ n
    zero-plus p n = rw zero-mul (zero-add n)
from_bytes-append (x ∷ a) b =
    let e : 8 * length (a ++ b) ≡ 8 * length a + 8 * length b = omega (arith, length-append a b) in
    ap₂ (λ (k n : ℕ). x * k + n) (ap (λ (k : ℕ). 2 ^ k) e ∙ pow-add 2 (8 * length a) (8 * length b)) (from_bytes-append a b)
    ∙ regroup x (2 ^ (8 * length a)) (2 ^ (8 * length b)) (from_bytes a) (from_bytes b)
  where
    regroup : (x p q m n : ℕ) → x * (p * q) + (m * q + n) ≡ (x * p + m) * q + n
    regroup x p q m n = rw (add-mul, ← mul_assoc, ← add_assoc)

pub from_bytes-lt : (bs : List ℕ) → Bytes bs → from_bytes bs < 2 ^ (8 * length bs)
from_bytes-lt [] q = lit< tt
from_bytes-lt (b ∷ bs) q =
    let e : 8 * length (b ∷ bs) ≡ 8 + 8 * length bs = omega arith in
    rw (e, pow-add) (digits_lt q.0 (from_bytes-lt bs q.1))

-- there and back
pub from-to_bytes : (n v : ℕ) → from_bytes (to_bytes n v) ≡ v % 2 ^ (8 * n)
from-to_bytes zero v = sym (mod-one v)
from-to_bytes (suc n) v =
    let e : 8 * suc n ≡ 8 + 8 * n = omega arith in
    ap₂ (λ (k m : ℕ). byte n v * 2 ^ (8 * k) + m) (length-to_bytes n v) (from-to_bytes n v)
    ∙ ap (λ (b : ℕ). b * 2 ^ (8 * n) + v % 2 ^ (8 * n)) (byte-is n v)
    ∙ sym (ap (λ (k : ℕ). v % 2 ^ k) e ∙ mod-pow-add v 8 (8 * n))

pub to-from_bytes : (bs : List ℕ) → Bytes bs → to_bytes (length bs) (from_bytes bs) ≡ bs
to-from_bytes [] q = refl
to-from_bytes (b ∷ bs) q =
    let e : suc (length bs) ≡ 1 + length bs = omega arith in
    ap (λ (k : ℕ). to_bytes k (from_bytes (b ∷ bs))) e
    ∙ to_bytes-join 1 (length bs) b (from_bytes bs) (from_bytes-lt bs q.1)
    ∙ ap₂ (λ (x : ℕ) (l : List ℕ). x ∷ l) (mod-eq_of_lt q.0) (to-from_bytes bs q.1)
