-- Replay protection as a set of accepted indices with its highest index H: RFC 3711, 3.3.2, and 01, 'Arithmetic of the index' (what 01
-- calls let in is accepted here). A receiver has one such set for media and one for control. n is how many indices up to H are told
-- apart: one that is over n - 1 behind H is OLD. Assumes nothing.
use Rattle.std.specs.Prelude.{ℕ, ◌+◌, ◌≤◌, max, ◌≡◌, Bool, false, cond, ◌||◌, List, [], ◌∷◌, eqb, leb, Option, None, Some, Result, Ok, Err}
use Rattle.replay.specs.declared.window.Replayed.{Replayed}
use Rattle.replay.specs.declared.window.Replayed.TheVariants.{Old, Repeat}

-- i is in the list
abbrev pub mem : ℕ → List ℕ → Bool
mem i [] = false
mem i (j ∷ js) = eqb i j || mem i js

pub record Accepted : Type 0 where
  pub highest : Option ℕ
  pub indices : List ℕ

-- at set-up: an H that is given counts as H, and nothing is accepted yet
abbrev pub start : Option ℕ → Accepted
start h = record { highest = h; indices = [] }

-- over n - 1 behind H. With no H, no index is
abbrev pub too_old : (n : ℕ) → Option ℕ → (index : ℕ) → Bool
too_old n None i = false
too_old n (Some h) i = leb (i + n) h

-- OLD goes before REPEAT
abbrev pub judged : (old repeated : Bool) → Result Unit Replayed
judged old repeated = cond old (Err Old) (cond repeated (Err Repeat) (Ok tt))

abbrev pub verdict : (n : ℕ) → Accepted → (index : ℕ) → Result Unit Replayed
verdict n a i = judged (too_old n a.highest i) (mem i a.indices)

-- the larger of H and i; with no H, i
abbrev pub raise : Option ℕ → (index : ℕ) → Option ℕ
raise None i = Some i
raise (Some h) i = Some (max h i)

-- the set after i is accepted
abbrev pub accept : Accepted → (index : ℕ) → Accepted
accept a i = record { highest = raise a.highest i; indices = i ∷ a.indices }

-- ---- a list of indices, accepted one after the other
abbrev pub accept_all : Accepted → List ℕ → Accepted
accept_all a [] = a
accept_all a (i ∷ is) = accept_all (accept a i) is

abbrev pub highest_of : Option ℕ → List ℕ → Option ℕ
highest_of h [] = h
highest_of h (i ∷ is) = highest_of (raise h i) is

-- no index twice
abbrev pub Once : List ℕ → Type 0
Once [] = Unit {0}
Once (i ∷ is) = (mem i is ≡ false) × Once is

-- there is an H, and i is at most H
abbrev pub AtMost : (index : ℕ) → Option ℕ → Type 0
AtMost i None = ⊥
AtMost i (Some h) = i ≤ h
