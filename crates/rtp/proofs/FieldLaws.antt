-- Laws of fields: a field in the front of a packet doesn't depend on what follows, and n bytes spell a number of n bytes.
-- Assumes nothing.
use mathlib.Core.Path.{◌≡◌, sym, ap, ◌∙◌}
use mathlib.Core.List.{List, [], ◌∷◌, ◌++◌}
use Prim.Native.Nat.{ℕ, zero, suc, ◌+◌, ◌-◌, ◌*◌, ◌^◌, ◌<◌, ◌≤◌}
use native.Mathlib.Omega.{arith}
use native.Mathlib.Nat.{lt_of_lt_of_le}
use native.Mathlib.Numerals.{unary_clauses}
use lib.ListN.{length, take, drop, get_or, length-drop, length-take, get_or-append}
use lib.Pow.{pow_mono}
use lib.Seq.{take-nil, take-append-le, drop-append-le}
use Rattle.octets.specs.BigEndian.{Bytes, from_bytes}
use Rattle.octets.proofs.BigEndianLaws.{from_bytes-lt}

-- ---- fields in the front h of a packet
pub field-of-front : (n k : ℕ) (h x : List ℕ) → k + n ≤ length h → take n (drop k (h ++ x)) ≡ take n (drop k h)
field-of-front n k h x l =
    let m : n ≤ length (drop k h) = omega (arith, length-drop k h) in
    ap (take n) (drop-append-le k h x (omega arith)) ∙ take-append-le n (drop k h) x m

module _ (h x y : List ℕ) where
  pub byte-front : (k : ℕ) → k < length h → get_or (h ++ y) k 0 ≡ get_or (h ++ x) k 0
  byte-front k l = get_or-append h y 0 k l ∙ sym (get_or-append h x 0 k l)

  pub field-front : (n k : ℕ) → k + n ≤ length h → from_bytes (take n (drop k (h ++ y))) ≡ from_bytes (take n (drop k (h ++ x)))
  field-front n k l = ap from_bytes (field-of-front n k h y l ∙ sym (field-of-front n k h x l))

-- ---- a part of a part
pub drop-take : (n k : ℕ) (l : List ℕ) → drop n (take k l) ≡ take (k - n) (drop n l)
drop-take zero k l = simp unary_clauses
drop-take (suc n) zero l = let z : 0 - suc n ≡ 0 = omega arith in rw z
drop-take (suc n) (suc k) [] = sym (take-nil (suc k - suc n))
drop-take (suc n) (suc k) (x ∷ l) = simp unary_clauses (drop-take n k l)

-- ---- parts of bytes
pub bytes_take : (n : ℕ) (l : List ℕ) → Bytes l → Bytes (take n l)
bytes_take zero l b = tt
bytes_take (suc n) [] b = b
bytes_take (suc n) (x ∷ l) b = (b.0, bytes_take n l b.1)

pub bytes_drop : (n : ℕ) (l : List ℕ) → Bytes l → Bytes (drop n l)
bytes_drop zero l b = b
bytes_drop (suc n) [] b = b
bytes_drop (suc n) (x ∷ l) b = bytes_drop n l b.1

-- a field of n bytes is a number of n bytes
pub field_lt : (n k : ℕ) (p : List ℕ) → Bytes p → from_bytes (take n (drop k p)) < 2 ^ (8 * n)
field_lt n k p b =
    let f : List ℕ = take n (drop k p) in
    let l : length f ≤ n = omega (arith, length-take n (drop k p)) in
    lt_of_lt_of_le (from_bytes-lt f (bytes_take n (drop k p) (bytes_drop k p b))) (pow_mono (omega (arith, l)))
