-- Laws of the test for equal lists: what it says, and how a loop that gathers the differences of the elements computes it. Assumes nothing.
use mathlib.Core.Bool.{Bool, true, false, ◌&&◌}
use mathlib.Core.List.{List, [], ◌∷◌, ◌++◌}
use mathlib.Core.Path.{◌≡◌, refl, sym, ap, ap₂, ◌∙◌}
use Prim.Native.Nat.{ℕ, suc, ◌+◌, ◌<◌}
use native.Mathlib.Numerals.{add-one}
use native.Mathlib.Omega.{arith}
use borrow.Author.Tests.{eq-eqb, ne_eqb, eqb-true, eqb-false}
use lib.Bits.{bit_or, bit_xor, or_add_and, and_le_l, and_le_r, xor_zero_l, xor_self}
use lib.Dec.{eqb}
use lib.ListN.{length, take, get_or}
use lib.Seq.{take-suc, length-take-le}
use Rattle.octets.specs.Equal.{same}
use Rattle.octets.proofs.XorLaws.{xor-twice}

pub same_refl : (xs : List ℕ) → same xs xs ≡ true
same_refl [] = refl
same_refl (x ∷ xs) = rw (eq-eqb x x refl) (same_refl xs)

pub same_true : (xs ys : List ℕ) → same xs ys ≡ true → xs ≡ ys
same_true [] [] h = refl
same_true [] (y ∷ ys) h = cc
same_true (x ∷ xs) [] h = cc
same_true (x ∷ xs) (y ∷ ys) h = go (eqb x y) refl h (same_true xs ys)
  where
    go : (t : Bool) → eqb x y ≡ t → (t && same xs ys) ≡ true → (same xs ys ≡ true → xs ≡ ys) → x ∷ xs ≡ y ∷ ys
    go true e h ih = ap₂ (λ (a : ℕ) (l : List ℕ). a ∷ l) (eqb-true x y e) (ih h)
    go false e h ih = cc

pub same_length : (xs ys : List ℕ) → (length xs ≡ length ys → ⊥) → same xs ys ≡ false
same_length [] [] h = absurd (h refl)
same_length [] (y ∷ ys) h = refl
same_length (x ∷ xs) [] h = refl
same_length (x ∷ xs) (y ∷ ys) h = rw (same_length xs ys (λ e. h (ap suc e))) (no (eqb x y))
  where
    no : (t : Bool) → (t && false) ≡ false
    no true = refl
    no false = refl

-- one element more at the end
same-snoc : (xs ys : List ℕ) (x y : ℕ) → length xs ≡ length ys → same (xs ++ (x ∷ [])) (ys ++ (y ∷ [])) ≡ (same xs ys && eqb x y)
same-snoc [] [] x y e = yes (eqb x y)
  where
    yes : (t : Bool) → (t && true) ≡ t
    yes true = refl
    yes false = refl
same-snoc [] (b ∷ ys) x y e = let z : ⊥ = omega arith in absurd z
same-snoc (a ∷ xs) [] x y e = let z : ⊥ = omega arith in absurd z
same-snoc (a ∷ xs) (b ∷ ys) x y e = rw (same-snoc xs ys x y (omega arith)) (assoc (eqb a b) (same xs ys) (eqb x y))
  where
    assoc : (p q r : Bool) → (p && (q && r)) ≡ ((p && q) && r)
    assoc true q r = refl
    assoc false q r = refl

-- a difference joins those before it
xor-none : (x y : ℕ) → bit_xor x y ≡ 0 → x ≡ y
xor-none x y e = sym (xor-twice x y) ∙ ap (λ (n : ℕ). bit_xor n y) e ∙ xor_zero_l y

or_left : (a b : ℕ) → bit_or a b ≡ 0 → a ≡ 0
or_left a b e = omega (arith, or_add_and a b, and_le_l a b, and_le_r a b)

or_right : (a b : ℕ) → bit_or a b ≡ 0 → b ≡ 0
or_right a b e = omega (arith, or_add_and a b, and_le_l a b, and_le_r a b)

gather : (d x y : ℕ) → eqb (bit_or d (bit_xor x y)) 0 ≡ (eqb d 0 && eqb x y)
gather d x y = go (eqb d 0) (eqb x y) refl refl
  where
    go : (p q : Bool) → eqb d 0 ≡ p → eqb x y ≡ q → eqb (bit_or d (bit_xor x y)) 0 ≡ (p && q)
    go true true e f = eq-eqb (bit_or d (bit_xor x y)) 0
        (ap₂ bit_or (eqb-true d 0 e) (ap (λ (n : ℕ). bit_xor n y) (eqb-true x y f) ∙ xor_self y))
    go true false e f = ne_eqb (bit_or d (bit_xor x y)) 0 (λ h. eqb-false x y f (xor-none x y (or_right d (bit_xor x y) h)))
    go false q e f = ne_eqb (bit_or d (bit_xor x y)) 0 (λ h. eqb-false d 0 e (or_left d (bit_xor x y) h))

-- one turn of the loop
pub same_next : (a b : List ℕ) (i d : ℕ) → i < length a → i < length b → eqb d 0 ≡ same (take i a) (take i b)
    → eqb (bit_or d (bit_xor (get_or a i 0) (get_or b i 0))) 0 ≡ same (take (i + 1) a) (take (i + 1) b)
same_next a b i d ha hb e =
    let l : length (take i a) ≡ length (take i b) = length-take-le i a (omega arith) ∙ sym (length-take-le i b (omega arith)) in
    gather d (get_or a i 0) (get_or b i 0)
    ∙ ap (λ (t : Bool). t && eqb (get_or a i 0) (get_or b i 0)) e
    ∙ sym (ap (λ (n : ℕ). same (take n a) (take n b)) (add-one i)
    ∙ ap₂ same (take-suc a i 0 ha) (take-suc b i 0 hb)
    ∙ same-snoc (take i a) (take i b) (get_or a i 0) (get_or b i 0) l)
