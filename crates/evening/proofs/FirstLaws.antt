-- Laws of a list of indices, each where it comes first: an index more is added to it where it is not in the list yet; the same are in it, and
-- their highest is the same. Assumes nothing.
use Prim.Native.Nat.{ℕ}
use native.Mathlib.Omega.{arith}
use mathlib.Core.Path.{◌≡◌, refl, sym, ap, ◌∙◌}
use mathlib.Core.Bool.{Bool, true, false, cond, ◌||◌, or_assoc, or_comm, true≢false}
use mathlib.Core.List.{List, [], ◌∷◌, ◌++◌, append_assoc, append-nil}
use lib.Dec.{eqb}
use borrow.Author.Tests.{eqb-true}
use Rattle.std.specs.Prelude.{Option, None, Some}
use Rattle.replay.specs.Accepted.{mem, raise, highest_of, AtMost}
use Rattle.evening.specs.Evening.{firsts_behind, firsts}

or_swap : (a b c : Bool) → (a || (b || c)) ≡ (b || a || c)
or_swap a b c = sym (or_assoc a b c) ∙ ap (λ (x : Bool). x || c) (or_comm a b)

-- ---- an index more
behind-last : (seen xs : List ℕ) (i : ℕ) →
    firsts_behind seen (xs ++ (i ∷ [])) ≡ firsts_behind seen xs ++ cond (mem i xs || mem i seen) [] (i ∷ [])
behind-last seen [] i = append-nil (cond (mem i seen) [] (i ∷ []))
behind-last seen (x ∷ xs) i =
    let head : List ℕ = cond (mem x seen) [] (x ∷ []) in
    ap (λ (is : List ℕ). head ++ is) (behind-last (x ∷ seen) xs i)
    ∙ sym (append_assoc head (firsts_behind (x ∷ seen) xs) _)
    ∙ ap (λ (b : Bool). head ++ firsts_behind (x ∷ seen) xs ++ cond b [] (i ∷ [])) (or_swap (mem i xs) (eqb i x) (mem i seen))

pub firsts-last : (xs : List ℕ) (i : ℕ) → firsts (xs ++ (i ∷ [])) ≡ firsts xs ++ cond (mem i xs) [] (i ∷ [])
firsts-last xs i = behind-last [] xs i ∙ ap (λ (b : Bool). firsts xs ++ cond b [] (i ∷ [])) (or_comm (mem i xs) false)

-- ---- the same indices
seen-already : (x : ℕ) (seen : List ℕ) (i : ℕ) → mem x seen ≡ true → (eqb i x || mem i seen) ≡ mem i seen
seen-already x seen i m = go (eqb i x) refl
  where
    go : (b : Bool) → eqb i x ≡ b → (b || mem i seen) ≡ mem i seen
    go true e = sym (rw (eqb-true i x e) m)
    go false e = refl

behind-mem : (seen xs : List ℕ) (i : ℕ) → (mem i (firsts_behind seen xs) || mem i seen) ≡ (mem i xs || mem i seen)
behind-mem seen [] i = refl
behind-mem seen (x ∷ xs) i = go (mem x seen) refl (behind-mem (x ∷ seen) xs i)
  where
    rest : List ℕ
    rest = firsts_behind (x ∷ seen) xs

    go : (b : Bool) → mem x seen ≡ b → (mem i rest || (eqb i x || mem i seen)) ≡ (mem i xs || (eqb i x || mem i seen)) →
        (mem i (cond b [] (x ∷ []) ++ rest) || mem i seen) ≡ (eqb i x || mem i xs || mem i seen)
    go true m h =
        ap (λ (b : Bool). mem i rest || b) (sym (seen-already x seen i m)) ∙ h ∙ or_swap (mem i xs) (eqb i x) (mem i seen)
    go false m h = sym (or_swap (mem i rest) (eqb i x) (mem i seen)) ∙ h ∙ or_swap (mem i xs) (eqb i x) (mem i seen)

pub firsts-mem : (xs : List ℕ) (i : ℕ) → mem i (firsts xs) ≡ mem i xs
firsts-mem xs i = or_comm false (mem i (firsts xs)) ∙ behind-mem [] xs i ∙ or_comm (mem i xs) false

-- ---- the same highest
-- h is at least each of these
abbrev pub Below : List ℕ → Option ℕ → Type 0
Below seen h = (m : ℕ) → mem m seen ≡ true → AtMost m h

raise-same : (h : Option ℕ) (i : ℕ) → AtMost i h → raise h i ≡ h
raise-same None i l = absurd l
raise-same (Some k) i l = ap Some (omega arith)

pub below_raised : (seen : List ℕ) (h : Option ℕ) (i : ℕ) → Below seen h → Below (i ∷ seen) (raise h i)
below_raised seen h i l m = go h (eqb m i) refl (l m)
  where
    go : (h : Option ℕ) (b : Bool) → eqb m i ≡ b → (mem m seen ≡ true → AtMost m h) → (b || mem m seen) ≡ true → AtMost m (raise h i)
    go None true e f t = omega (arith, eqb-true m i e)
    go (Some k) true e f t = omega (arith, eqb-true m i e)
    go None false e f t = absurd (f t)
    go (Some k) false e f t = omega (arith, f t)

behind-highest : (seen xs : List ℕ) (h : Option ℕ) → Below seen h → highest_of h (firsts_behind seen xs) ≡ highest_of h xs
behind-highest seen [] h l = refl
behind-highest seen (x ∷ xs) h l = go (mem x seen) refl (behind-highest (x ∷ seen) xs (raise h x) (below_raised seen h x l))
  where
    rest : List ℕ
    rest = firsts_behind (x ∷ seen) xs

    go : (b : Bool) → mem x seen ≡ b → highest_of (raise h x) rest ≡ highest_of (raise h x) xs →
        highest_of h (cond b [] (x ∷ []) ++ rest) ≡ highest_of (raise h x) xs
    go true m e = sym (ap (λ (k : Option ℕ). highest_of k rest) (raise-same h x (l x m))) ∙ e
    go false m e = e

pub firsts-highest : (xs : List ℕ) → highest_of None (firsts xs) ≡ highest_of None xs
firsts-highest xs = behind-highest [] xs None (λ m e. absurd (true≢false (sym e)))
