-- Indices that are new to a replay window, each when its turn comes, are no index twice. Assumes nothing.
use Prim.Native.Nat.{ℕ}
use native.Mathlib.Omega.{arith}
use mathlib.Core.Path.{◌≡◌, refl, sym, ◌∙◌}
use mathlib.Core.Bool.{Bool, true, false}
use mathlib.Core.List.{List, [], ◌∷◌}
use borrow.Author.Tests.{ne_eqb}
use Rattle.std.specs.Prelude.{Ok}
use Rattle.replay.specs.Accepted.{mem, Once, too_old, judged}
use Rattle.replay.specs.Window.{window_verdict, window_mark, window_mark_all}
use Rattle.replay.specs.declared.window.Window.{Window}
use Rattle.replay.proofs.WindowLaws.{marked_refused}

module _ (n : ℕ) where
  abbrev pub NewInTurn : Window → List ℕ → Type 0
  NewInTurn w [] = Unit {0}
  NewInTurn w (i ∷ is) = (window_verdict n w i ≡ Ok tt) × NewInTurn (window_mark n w i) is

  -- i is not new, whatever is marked
  abbrev Never : Window → ℕ → Type 0
  Never w i = (is : List ℕ) → window_verdict n (window_mark_all n w is) i ≡ Ok tt → ⊥

  never-marked : (w : Window) (i : ℕ) → Never (window_mark n w i) i
  never-marked w i is e =
      go (too_old n (window_mark_all n (window_mark n w i) is).highest i) (sym (marked_refused n w i is) ∙ e)
    where
      go : (t : Bool) → judged t true ≡ Ok tt → ⊥
      go true z = let y : ◌≡◌ {A = ℕ} 0 1 = cc in omega arith
      go false z = let y : ◌≡◌ {A = ℕ} 0 1 = cc in omega arith

  not-among : (w : Window) (is : List ℕ) (i : ℕ) → Never w i → NewInTurn w is → mem i is ≡ false
  not-among w [] i f t = refl
  not-among w (j ∷ is) i f t =
      rw (ne_eqb i j (λ e. f [] (rw e t.0))) (not-among (window_mark n w j) is i (λ js. f (j ∷ js)) t.1)

  pub turns-once : (w : Window) (is : List ℕ) → NewInTurn w is → Once is
  turns-once w [] t = tt
  turns-once w (i ∷ is) t = (not-among (window_mark n w i) is i (never-marked w i) t.1, turns-once (window_mark n w i) is t.1)
