-- Where nothing is lost and nothing overtakes, each delivery keeps up: a sender's own rule, that a step is below 32,768, sees to it. So what
-- was sent is what is accepted. Assumes nothing.
use Prim.Native.Nat.{ℕ}
use native.Mathlib.Omega.{arith}
use mathlib.Core.Path.{◌≡◌, refl, sym, ap, subst, ◌∙◌}
use mathlib.Core.Logic.{inr}
use mathlib.Core.Bool.{Bool, true, false, true≢false}
use mathlib.Core.List.{List, [], ◌∷◌, ◌++◌, append_assoc}
use Rattle.std.specs.Prelude.{Option, None, Some}
use Rattle.replay.specs.Accepted.{mem, raise, highest_of, AtMost}
use Rattle.session.specs.SetUps.{SetUp}
use Rattle.demands.specs.Runs.{media, Call, BytesIn}
use Rattle.demands.specs.Words.{accepted_as}
use Rattle.demands.proofs.SentIndices.{IsStep, EachStep, step-at, sent-steps}
use Rattle.evening.specs.Evening.{Event, genuine, calls_of, delivered, firsts_behind, EachKeepsUp, HasRoom, StrangeRefused, KeepsUp, InOrder}
use Rattle.evening.proofs.FirstLaws.{Below, below_raised}
use Rattle.evening.proofs.EventLaws.{delivered-append}
use Rattle.evening.proofs.WholeEvening.{plain-evening}

-- ---- each is higher than those before it, so that none stands twice
not_seen : (seen : List ℕ) (h : Option ℕ) (i : ℕ) → Below seen h → IsStep h i → mem i seen ≡ false
not_seen seen h i l s = go (mem i seen) refl
  where
    above : (h : Option ℕ) → IsStep h i → AtMost i h → ⊥
    above None s a = a
    above (Some h) s a = omega (arith, s.0)

    go : (b : Bool) → mem i seen ≡ b → b ≡ false
    go true m = absurd (above h s (l i m))
    go false m = refl

steps-firsts : (seen is later : List ℕ) (h : Option ℕ) → Below seen h → EachStep h (is ++ later) → firsts_behind seen is ≡ is
steps-firsts seen [] later h l s = refl
steps-firsts seen (i ∷ is) later h l s =
    rw (not_seen seen h i l s.0) (ap (λ (js : List ℕ). i ∷ js) (steps-firsts (i ∷ seen) is later (raise h i) (below_raised seen h i l) s.1))

-- ---- the evening
step-keeps-up : (h : Option ℕ) (i : ℕ) → IsStep h i → KeepsUp false 0 h i
step-keeps-up None i s = omega arith
step-keeps-up (Some h) i s = inr (omega (arith, s.0), omega (arith, s.1))

module _ (u : SetUp) (run : List Call) (evening : List (Event u run)) (bytes : BytesIn run) where
  steps : (o : InOrder u run evening) → EachStep None (delivered evening ++ o.0)
  steps (later, e) = subst (λ (is : List ℕ). EachStep None is) e (sent-steps u run bytes)

  pub in_order : InOrder u run evening → EachKeepsUp (λ i. false) 0 evening
  in_order o before g d (after, c) =
      let later : List ℕ = o.0 in
      let parts : delivered evening ++ later ≡ delivered before ++ (g.index ∷ (delivered after ++ later)) =
      ap (λ (es : List (Event u run)). delivered es ++ later) c
      ∙ ap (λ (is : List ℕ). is ++ later) (delivered-append before (genuine g d ∷ after))
      ∙ append_assoc (delivered before) (g.index ∷ delivered after) later in
      step-keeps-up (highest_of None (delivered before)) g.index
      (step-at None (delivered before) g.index (delivered after ++ later) (subst (λ (is : List ℕ). EachStep None is) parts (steps o)))

  pub nothing-lost : InOrder u run evening → HasRoom evening → StrangeRefused 0 evening →
      accepted_as u 0 None media (calls_of evening) ≡ delivered evening
  nothing-lost o room strange =
      (plain-evening u 0 run evening (omega arith) bytes (record { keeps_up = in_order o; room = room; strange_refused = strange })).indices
      ∙ steps-firsts [] (delivered evening) o.0 None (λ m e. absurd (true≢false (sym e))) (steps o)
