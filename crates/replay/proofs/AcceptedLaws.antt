-- Laws of a set of accepted indices and of its highest index H, which never falls. Assumes nothing.
use mathlib.Core.Path.{◌≡◌, refl, sym, ap, ◌∙◌}
use mathlib.Core.Logic.{◌⊎◌, inl, inr}
use mathlib.Core.Bool.{Bool, true, false, cond, ◌||◌, or_assoc, or_comm, true≢false}
use mathlib.Core.List.{List, [], ◌∷◌}
use Prim.Native.Nat.{ℕ, ◌+◌, ◌≤◌, ◌<◌, max}
use native.Mathlib.Omega.{arith}
use lib.Dec.{eqb, leb}
use borrow.Author.Tests.{leb-true, leb-false, lt-leb, eq-eqb, eqb-true}
use Rattle.std.specs.Prelude.{Option, None, Some, Ok, Err}
use Rattle.replay.specs.Index.{Near}
use Rattle.replay.specs.Accepted.{mem, Accepted, too_old, judged, verdict, raise, accept, accept_all, highest_of, AtMost}
use Rattle.replay.specs.declared.window.Replayed.TheVariants.{Repeat}

-- ---- H
-- H never falls: what is at most H, as H itself is, stays at most H
raise-keeps : (h : Option ℕ) (i m : ℕ) → AtMost m h → AtMost m (raise h i)
raise-keeps None i m l = absurd l
raise-keeps (Some h) i m l = omega arith

raise-covers : (h : Option ℕ) (i : ℕ) → AtMost i (raise h i)
raise-covers None i = omega arith
raise-covers (Some h) i = omega arith

pub never-falls : (h : Option ℕ) (is : List ℕ) (m : ℕ) → AtMost m h → AtMost m (highest_of h is)
never-falls h [] m l = l
never-falls h (i ∷ is) m l = never-falls (raise h i) is m (raise-keeps h i m l)

-- after a list of indices H is the largest of them and of the H before: at least each, and one of them
pub highest-covers : (h : Option ℕ) (is : List ℕ) (m : ℕ) → mem m is ≡ true → AtMost m (highest_of h is)
highest-covers h [] m e = absurd (true≢false (sym e))
highest-covers h (i ∷ is) m e = go (eqb m i) refl e (highest-covers (raise h i) is m)
  where
    go : (b : Bool) → eqb m i ≡ b → (b || mem m is) ≡ true → (mem m is ≡ true → AtMost m (highest_of (raise h i) is)) →
        AtMost m (highest_of (raise h i) is)
    go true p q rest = never-falls (raise h i) is m (rw (eqb-true m i p) (raise-covers h i))
    go false p q rest = rest q

pub highest-among : (h : Option ℕ) (is : List ℕ) (m : ℕ) → highest_of h is ≡ Some m → (h ≡ Some m) ⊎ (mem m is ≡ true)
highest-among h [] m e = inl e
highest-among h (i ∷ is) m e = later (highest-among (raise h i) is m e)
  where
    own : m ≡ i → mem m (i ∷ is) ≡ true
    own p = rw (eq-eqb m i p)

    raised : (h : Option ℕ) → raise h i ≡ Some m → (h ≡ Some m) ⊎ (mem m (i ∷ is) ≡ true)
    raised None p = let q : i ≡ m = cc in inr (own (sym q))
    raised (Some k) p = go (leb i k) refl
      where
        q : max k i ≡ m
        q = cc

        go : (x : Bool) → leb i k ≡ x → (Some k ≡ Some m) ⊎ (mem m (i ∷ is) ≡ true)
        go true e = let l : i ≤ k = leb-true _ _ e in inl (ap Some (omega (arith, q)))
        go false e = let l : k < i = leb-false _ _ e in inr (own (omega (arith, q)))

    later : (raise h i ≡ Some m) ⊎ (mem m is ≡ true) → (h ≡ Some m) ⊎ (mem m (i ∷ is) ≡ true)
    later (inl p) = raised h p
    later (inr p) = inr (rw (p, or_comm (eqb m i) true))

-- so what is too old stays too old
pub raise-old : (n : ℕ) (h : Option ℕ) (i j : ℕ) → too_old n (raise h i) j ≡ false → too_old n h j ≡ false
raise-old n None i j e = refl
raise-old n (Some h) i j e = let l : max h i < j + n = leb-false _ _ e in lt-leb (j + n) h (omega arith)

-- what is not too old for a window is not too old for a longer one
pub longer-young : (n m : ℕ) → n ≤ m → (h : Option ℕ) (i : ℕ) → too_old n h i ≡ false → too_old m h i ≡ false
longer-young n m l None i e = refl
longer-young n m l (Some h) i e = let k : h < i + n = leb-false _ _ e in lt-leb (i + m) h (omega arith)

-- an index within reach is not too old
pub near-young : (n r : ℕ) (h : Option ℕ) (i : ℕ) → Near n r h i → too_old n h i ≡ false
near-young n r None i w = refl
near-young n r (Some h) i w = lt-leb (i + n) h w.0

-- ---- the set after a list of indices
pub after-highest : (a : Accepted) (is : List ℕ) → (accept_all a is).highest ≡ highest_of a.highest is
after-highest a [] = refl
after-highest a (i ∷ is) = after-highest (accept a i) is

pub after-mem : (a : Accepted) (is : List ℕ) (j : ℕ) → mem j (accept_all a is).indices ≡ (mem j is || mem j a.indices)
after-mem a [] j = refl
after-mem a (i ∷ is) j =
    after-mem (accept a i) is j
    ∙ sym (or_assoc (mem j is) (eqb j i) (mem j a.indices))
    ∙ ap (λ (x : Bool). x || mem j a.indices) (or_comm (mem j is) (eqb j i))

-- ---- an index is new exactly where it is neither too old nor accepted
pub new-unseen : (n : ℕ) (a : Accepted) (i : ℕ) → verdict n a i ≡ Ok tt → mem i a.indices ≡ false
new-unseen n a i = go (too_old n a.highest i) (mem i a.indices)
  where
    go : (old repeated : Bool) → judged old repeated ≡ Ok tt → repeated ≡ false
    go true repeated e = cc
    go false true e = cc
    go false false e = refl

-- what is not too old is a repeat or new
pub young-verdict : (n : ℕ) (a : Accepted) (i : ℕ) → too_old n a.highest i ≡ false → verdict n a i ≡ cond (mem i a.indices) (Err Repeat) (Ok tt)
young-verdict n a i o = rw o
