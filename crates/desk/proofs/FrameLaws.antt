-- What stands of a frame, with more of its bytes. Assumes nothing.
use Prim.Native.Nat.{ℕ, ◌+◌, ◌≤◌, ◌<◌}
use mathlib.Core.Bool.{true, false}
use mathlib.Core.List.{List, [], ◌∷◌, ◌++◌, append_assoc}
use mathlib.Core.Path.{◌≡◌, refl, ap, ap₂, ◌∙◌}
use native.Mathlib.Omega.{arith}
use borrow.Author.Tests.{le-leb, lt-leb}
use lib.ListN.{length, drop, length-append}
use lib.Seq.{take-append-le}
use Rattle.octets.specs.BigEndian.{from_bytes}
use Rattle.desk.specs.Framing.{announced, whole, completed, begun, packets_from, rest_from, Cut}
use Rattle.desk.specs.Reads.{Passes}

-- two bytes tell the length, whatever follows
pub announced-front : (f g : List ℕ) → 2 ≤ length f → announced (f ++ g) ≡ announced f
unfolding announced
announced-front f g h = ap from_bytes (take-append-le 2 f g h)

pub not-whole : (f : List ℕ) → Cut f → whole f ≡ false
not-whole f c = lt-leb (2 + announced f) (length f) (omega arith)

module _ (f : List ℕ) (w : whole f ≡ false) where
  pub none-completed : completed f ≡ []
  unfolding completed
  none-completed = rw w

  pub all-begun : begun f ≡ f
  unfolding begun
  all-begun = rw w

module _ (f : List ℕ) (w : whole f ≡ true) where
  pub none-begun : begun f ≡ []
  unfolding begun
  none-begun = rw w

  pub long-completed : 2058 < announced f → completed f ≡ []
  unfolding completed
  long-completed l = rw (w, lt-leb (announced f) 2058 l)

  pub short-completed : announced f ≤ 2058 → completed f ≡ drop 2 f ∷ []
  unfolding completed
  short-completed l = rw (w, le-leb (announced f) 2058 l)

-- Bytes of the packet, no more than it has, complete nothing before the last of them.
pub bytes-pass : (f : List ℕ) (x : ℕ) (g c : List ℕ) → 2 ≤ length f → length (f ++ (x ∷ g)) ≤ 2 + announced f
    → Passes f ((x ∷ g) ++ c) (completed (f ++ (x ∷ g))) (begun (f ++ (x ∷ g))) c
bytes-pass f x [] c two h = record { packets = refl; rest = refl }
bytes-pass f x (y ∷ g) c two h =
    let e : List ℕ = f ++ (x ∷ []) in
    let assoc : e ++ (y ∷ g) ≡ f ++ (x ∷ y ∷ g) = append_assoc f (x ∷ []) (y ∷ g) in
    let told : announced e ≡ announced f = announced-front f (x ∷ []) two in
    let all : length (f ++ (x ∷ y ∷ g)) ≡ length f + length (x ∷ y ∷ g) = length-append f (x ∷ y ∷ g) in
    let cut : whole e ≡ false = not-whole e (omega (arith, length-append f (x ∷ []))) in
    let two' : 2 ≤ length e = omega (arith, length-append f (x ∷ [])) in
    let h' : length (e ++ (y ∷ g)) ≤ 2 + announced e = omega (arith, ap length assoc) in
    let p = bytes-pass e y g c two' h' in
    record {
      packets = ap₂ (λ (ps : List (List ℕ)) (z : List ℕ). ps ++ packets_from z ((y ∷ g) ++ c)) (none-completed e cut) (all-begun e cut)
          ∙ p.packets ∙ ap (λ (z : List ℕ). completed z ++ packets_from (begun z) c) assoc;
      rest = ap (λ (z : List ℕ). rest_from z ((y ∷ g) ++ c)) (all-begun e cut) ∙ p.rest ∙ ap (λ (z : List ℕ). rest_from (begun z) c) assoc;
    }
