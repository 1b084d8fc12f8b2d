-- The output of a read is no longer than the read and what stood of a frame before it. Assumes nothing.
use Prim.Native.Nat.{ℕ, ◌+◌, ◌≤◌, ◌<◌}
use mathlib.Core.Bool.{Bool, true, false}
use mathlib.Core.List.{List, [], ◌∷◌, ◌++◌}
use mathlib.Core.Path.{◌≡◌, refl, sym, subst}
use native.Mathlib.Omega.{arith}
use borrow.Author.Tests.{leb-true, leb-false}
use lib.Dec.{leb}
use lib.ListN.{length, drop, length-append, length-drop}
use Rattle.desk.specs.Framing.{announced, whole, completed, begun, packets_from, Cut}
use Rattle.desk.specs.Listening.{received, after, written, served}
use Rattle.desk.specs.Reads.{Holds}
use Rattle.desk.specs.declared.Listener.{Listener}
use Rattle.desk.specs.declared.framing.Reader.{Reader}
use Rattle.desk.proofs.ListenerLaws.{written-length}
use Rattle.desk.proofs.FrameLaws.{announced-front, none-completed, all-begun, none-begun, long-completed, short-completed}

-- the packet of a frame is not too long, as far as its length is known
abbrev Kept : List ℕ → Type 0
Kept f = 2 ≤ length f → announced f ≤ 2058

kept-before : (f : List ℕ) (b : ℕ) → Kept (f ++ (b ∷ [])) → Kept f
kept-before f b k h =
    let m : announced (f ++ (b ∷ [])) ≤ 2058 = k (omega (arith, length-append f (b ∷ []))) in
    omega (arith, announced-front f (b ∷ []) h)

-- by what the next byte b completes: k bounds what stands of a frame, if it is one that is kept
module _ (l : Listener) (f bs : List ℕ) (b k : ℕ) (h : Kept f → length f ≤ k)
    (more : (m : Listener) (x : List ℕ) (n : ℕ) → (Kept x → length x ≤ n) → length (served m (packets_from x bs)) ≤ n + length bs) where
  abbrev g : List ℕ
  g = f ++ (b ∷ [])

  abbrev goal : List (List ℕ) → List ℕ → Type 0
  goal ps x = length (served l (ps ++ packets_from x bs)) ≤ k + (1 + length bs)

  bound : Kept g → length g ≤ k + 1
  bound m = let n : length f ≤ k = h (kept-before f b m) in omega (arith, length-append f (b ∷ []))

  whole_by : (t : Bool) → leb (announced g) 2058 ≡ t → whole g ≡ true → goal (completed g) (begun g)
  whole_by true s w =
      let m : announced g ≤ 2058 = leb-true (announced g) 2058 s in
      let p : List ℕ = drop 2 g in
      let r : length (served (after l (received l p)) (packets_from [] bs)) ≤ 0 + length bs = more (after l (received l p)) [] 0 (λ z. omega arith) in
      let n : length g ≤ k + 1 = bound (λ z. m) in
      subst (λ (ps : List (List ℕ)). goal ps (begun g)) (sym (short-completed g w m))
      (subst (λ (x : List ℕ). goal (p ∷ []) x) (sym (none-begun g w))
      (omega (
        arith,
        length-append (written (received l p)) (served (after l (received l p)) (packets_from [] bs)),
        written-length l p,
        length-drop 2 g,
        leb-true (2 + announced g) (length g) w,
      )))
  whole_by false s w =
      let m : 2058 < announced g = leb-false (announced g) 2058 s in
      let r : length (served l (packets_from [] bs)) ≤ 0 + length bs = more l [] 0 (λ z. omega arith) in
      subst (λ (ps : List (List ℕ)). goal ps (begun g)) (sym (long-completed g w m))
      (subst (λ (x : List ℕ). goal [] x) (sym (none-begun g w)) (omega arith))

  next-by : (t : Bool) → whole g ≡ t → goal (completed g) (begun g)
  next-by true w = whole_by (leb (announced g) 2058) refl w
  next-by false w =
      let r : length (served l (packets_from g bs)) ≤ k + 1 + length bs = more l g (k + 1) bound in
      subst (λ (ps : List (List ℕ)). goal ps (begun g)) (sym (none-completed g w))
      (subst (λ (x : List ℕ). goal [] x) (sym (all-begun g w)) (omega arith))

-- k bounds what stands of a frame, if it is one that is kept
pub served-length : (l : Listener) (f bs : List ℕ) (k : ℕ) → (Kept f → length f ≤ k) → length (served l (packets_from f bs)) ≤ k + length bs
served-length l f [] k h = omega arith
served-length l f (b ∷ bs) k h = let r = next-by l f bs b k h (λ m x n z. served-length m x bs n z) (whole (f ++ (b ∷ []))) refl in omega arith

-- what the reader holds is no longer than 2,059 bytes, if it is of a packet that is kept
held_by : (f : List ℕ) → Cut f → Kept f → (t : Bool) → leb 2 (length f) ≡ t → length f ≤ 2059
held_by f m k true e = let n : announced f ≤ 2058 = k (leb-true 2 (length f) e) in omega arith
held_by f m k false e = omega (arith, leb-false 2 (length f) e)

pub read_length : (l : Listener) (r : Reader) (kept f input : List ℕ) → Holds r kept f → length (served l (packets_from f input)) ≤ 2059 + length input
read_length l r kept f input h = served-length l f input 2059 (λ k. held_by f h.cut k (leb 2 (length f)) refl)
