-- One law for each way out of a call by value: what the code leaves there is what the definition says. Assumes nothing.
use Prim.Native.Nat.{ℕ}
use mathlib.Core.Bool.{Bool, true, false, cond}
use mathlib.Core.List.{List}
use mathlib.Core.Path.{◌≡◌, refl, ap, subst, ◌∙◌}
use Rattle.std.specs.Prelude.{Result, Ok, Err, MatchResult}
use Rattle.srtp.specs.declared.Refusal.{Refusal}
use Rattle.srtp.specs.declared.Refusal.TheVariants.{Setup}
use Rattle.srtp.specs.Outcomes as core
use Rattle.srtp.specs.Outcomes.{Outcome, refused, done, answer_of, next_of, buffer_of}
use Rattle.srtp_c.specs.declared.Answer.{Answer}
use Rattle.srtp_c.specs.Boundary.{plain_answer, plain_next, Shows}

-- what the conversion of a struct tells of it, by its answer
module _ {S : Type 0} where
  none-made : (b : Bool) (t : S) (r : Result S Refusal) → r ≡ cond b (Ok t) (Err Setup) → (x : Refusal) → r ≡ Err x → (b ≡ false) × (x ≡ Setup)
  none-made true t (Ok s) e x f = cc
  none-made true t (Err y) e x f = cc
  none-made false t r e x f = (refl, cc)

  one-made : (b : Bool) (t : S) (r : Result S Refusal) → r ≡ cond b (Ok t) (Err Setup) → (s : S) → r ≡ Ok s → s ≡ t
  one-made true t r e s f = cc
  one-made false t r e s f = cc

module _ {S P : Type 0} (plain : S → P) where
  -- the struct after a call of `srtp` on s
  left : (o : Outcome S) (s n : S) → n ≡ next_of o s → (c m : P)
      → MatchResult (answer_of o) (λ _. m ≡ plain n) (λ _. m ≡ c) → m ≡ plain_next plain o c
  left (refused x) s n g c m h = h
  left (done p i t) s n g c m h = h ∙ ap plain g

  -- r is the context that a struct stands for, if b, that each number of an enum is one
  module _ (b : Bool) (t : S) (r : Result S Refusal) (e : r ≡ cond b (Ok t) (Err Setup)) where
    -- a call that is refused before `srtp` is asked
    pub shows-refused : (x : Refusal) → r ≡ Err x → (o : Outcome S) → (b ≡ false → o ≡ refused Setup)
        → (a : Answer) → a ≡ plain_answer (Err x) → (c m : P) → m ≡ c → (before : List ℕ) → Shows plain o c before a m before
    shows-refused x f o closed a g c m h before =
        let u = none-made b t r e x f in
        rw (closed u.0) (record { answers = g ∙ ap (λ (z : Refusal). plain_answer (Err z)) u.1; leaves = h; writes = refl })

    -- a call of `srtp` on s, which is what the struct stands for
    pub shows-turned : (s : S) → r ≡ Ok s → (call : S → Outcome S) → (y : core.Answer) → y ≡ answer_of (call s) → (n : S) → n ≡ next_of (call s) s
        → (before after : List ℕ) → after ≡ buffer_of (call s) before
        → (c : P) (a : Answer) (m : P) → a ≡ plain_answer y → MatchResult y (λ _. m ≡ plain n) (λ _. m ≡ c)
        → Shows plain (call t) c before a m after
    shows-turned s es call y f n g before after h c a m ea em =
        let o = call s in
        let told = subst (λ (z : core.Answer). MatchResult z (λ _. m ≡ plain n) (λ _. m ≡ c)) f em in
        rw (← one-made b t r e s es) (record { answers = ea ∙ ap plain_answer f; leaves = left o s n g c m told; writes = h })
