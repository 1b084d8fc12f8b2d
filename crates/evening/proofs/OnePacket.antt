-- A sender's run has one packet at an index: so 'the packet that was sent' is one, whichever delivery names it. Assumes nothing.
use Prim.Native.Nat.{◌<◌}
use native.Mathlib.Omega.{arith}
use mathlib.Core.Path.{◌≡◌, refl, sym, ap, subst, ◌∙◌}
use mathlib.Core.List.{List, [], ◌∷◌, ◌++◌, head-eq_of_cons-eq, tail-eq_of_cons-eq}
use Rattle.session.specs.SetUps.{SetUp}
use Rattle.demands.specs.Runs.{Call, sender_outcome}
use Rattle.demands.specs.Words.{FinishedAt, comes_out}
use Rattle.demands.proofs.SentIndices.{media-rises}
use Rattle.evening.specs.Evening.{Genuine, packet_of, bytes_of}

-- two calls of a list, each behind its earlier ones
data Order (xs : List Call) (x : Call) (ys : List Call) (y : Call) : Type 0 where
  same : xs ≡ ys → x ≡ y → Order xs x ys y
  sooner : (between : List Call) → ys ≡ xs ++ (x ∷ between) → Order xs x ys y
  later : (between : List Call) → xs ≡ ys ++ (y ∷ between) → Order xs x ys y

behind : (z z' : Call) (xs : List Call) (x : Call) (ys : List Call) (y : Call) → z ≡ z' → Order xs x ys y → Order (z ∷ xs) x (z' ∷ ys) y
behind z z' xs x ys y e (same p q) = same (λ i. e i ∷ p i) q
behind z z' xs x ys y e (sooner b p) = sooner b (λ i. sym e i ∷ p i)
behind z z' xs x ys y e (later b p) = later b (λ i. e i ∷ p i)

order : (xs : List Call) (x : Call) (xs' ys : List Call) (y : Call) (ys' : List Call) → xs ++ (x ∷ xs') ≡ ys ++ (y ∷ ys') → Order xs x ys y
order [] x xs' [] y ys' e = same refl (head-eq_of_cons-eq e)
order [] x xs' (z ∷ ys) y ys' e = sooner ys (ap (λ (c : Call). c ∷ ys) (sym (head-eq_of_cons-eq e)))
order (z ∷ xs) x xs' [] y ys' e = later xs (ap (λ (c : Call). c ∷ xs) (head-eq_of_cons-eq e))
order (z ∷ xs) x xs' (z' ∷ ys) y ys' e = behind z z' xs x ys y (head-eq_of_cons-eq e) (order xs x xs' ys y ys' (tail-eq_of_cons-eq e))

module _ {u : SetUp} {run : List Call} where
  rises : (g g' : Genuine u run) (between : List Call) → g'.earlier ≡ g.earlier ++ (g.call ∷ between) → g.index < g'.index
  rises g g' between e =
      media-rises u g.earlier g.call between g'.call g.index g'.index g.is_media g'.is_media g.sent
      (subst (λ (cs : List Call). FinishedAt (sender_outcome u cs g'.call) g'.index) e g'.sent)

  pub one-packet : (g g' : Genuine u run) → g.index ≡ g'.index → (packet_of g ≡ packet_of g') × (bytes_of g ≡ bytes_of g')
  one-packet g g' e =
      go (order g.earlier g.call g.later g'.earlier g'.call g'.later (sym g.in_run ∙ g'.in_run))
    where
      go : Order g.earlier g.call g'.earlier g'.call → (packet_of g ≡ packet_of g') × (bytes_of g ≡ bytes_of g')
      go (same p q) = (ap (λ (c : Call). c.packet) q, λ i. comes_out (sender_outcome u (p i) (q i)) (q i).buffer)
      go (sooner b p) = let l : g.index < g'.index = rises g g' b p in absurd (omega (arith, l, e))
      go (later b p) = let l : g'.index < g.index = rises g' g b p in absurd (omega (arith, l, e))
