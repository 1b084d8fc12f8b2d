-- A rule at every entry of a list, from one test that antt computes. Assumes nothing.
use mathlib.Core.Bool.{Bool, true, false, ◌&&◌}
use mathlib.Core.List.{List, [], ◌∷◌}
use mathlib.Core.Path.{◌≡◌, ◌∙◌, subst, sym}
use Prim.Native.Nat.{ℕ, zero, suc, ◌+◌, ◌<◌}
use native.Mathlib.Nat.{add-zero, zero-add, add-suc, suc-add, le_of_suc-le-suc}
use native.Mathlib.Omega.{arith}
use lib.Dec.{T, eqb, eqb→eq}
use lib.ListN.{length, get_or, replicate}

and_left : (a b : Bool) → T (a && b) → T a
and_left true b t = tt
and_left false b t = t

and_right : (a b : Bool) → T (a && b) → T b
and_right true b t = t
and_right false b t = absurd t

-- the test f passes at each place of the list, counted from i, and its entry. (Past the end of a list stands d.)
abbrev pub every : {A : Type 0} → (ℕ → A → Bool) → ℕ → List A → Bool
every f i [] = true
every f i (x ∷ xs) = f i x && every f (suc i) xs

from : {A : Type 0} (d : A) (f : ℕ → A → Bool) (xs : List A) (i : ℕ) → T (every f i xs) → (k : ℕ) → k < length xs → T (f (i + k) (get_or xs k d))
from d f [] i t k h = let z : ⊥ = omega arith in absurd z
from d f (x ∷ xs) i t zero h = subst (λ (m : ℕ). T (f m x)) (sym (add-zero i)) (and_left (f i x) (every f (suc i) xs) t)
from d f (x ∷ xs) i t (suc k) h =
    subst (λ (m : ℕ). T (f m (get_or xs k d))) (suc-add i k ∙ sym (add-suc i k))
    (from d f xs (suc i) (and_right (f i x) (every f (suc i) xs) t) k (le_of_suc-le-suc h))

-- what the test says of entry k
pub passed : {A : Type 0} (d : A) (f : ℕ → A → Bool) (xs : List A) → T (every f 0 xs) → (k : ℕ) → k < length xs → T (f k (get_or xs k d))
passed d f xs t k h = subst (λ (m : ℕ). T (f m (get_or xs k d))) (zero-add k) (from d f xs 0 t k h)

-- the entries of a list are the values of f
abbrev pub tabulates : (ℕ → ℕ) → List ℕ → Bool
tabulates f xs = every (λ k x. eqb x (f k)) 0 xs

pub entry_of : (f : ℕ → ℕ) (xs : List ℕ) → T (tabulates f xs) → (k : ℕ) → k < length xs → get_or xs k 0 ≡ f k
entry_of f xs t k h = eqb→eq (get_or xs k 0) (f k) (passed 0 (λ k x. eqb x (f k)) xs t k h)

-- f and g agree on each byte
abbrev pub agree : (ℕ → ℕ) → (ℕ → ℕ) → Bool
agree f g = every {A = ℕ} (λ k x. eqb (f k) (g k)) 0 (replicate 256 0)

pub agreed : (f g : ℕ → ℕ) → T (agree f g) → (b : ℕ) → b < 256 → f b ≡ g b
agreed f g t b h = eqb→eq (f b) (g b) (passed {A = ℕ} 0 (λ k x. eqb (f k) (g k)) (replicate 256 0) t b h)
