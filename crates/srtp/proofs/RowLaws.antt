-- Laws of rows: what a judgement tells of them, and a step's answer of the judgement. Assumes nothing.
use mathlib.Core.Bool.{Bool, true, false, cond}
use mathlib.Core.List.{List, [], ◌∷◌}
use mathlib.Core.Path.{◌≡◌, refl, ap, ◌∙◌}
use Rattle.std.specs.Prelude.{Result, Err, is_ok, IsErr, IsErrAnd}
use Rattle.std.proofs.lemmas.Result.{err_from_is_err_and}
use Rattle.srtp.specs.Refusals.{Row, Judgement, passes, stops, judged, judged_as}

-- where none is the first that holds, none holds
abbrev pub NoneHolds : List Row → Type 0
NoneHolds [] = Unit {0}
NoneHolds (r ∷ rs) = (r.holds ≡ false) × NoneHolds rs

pub none-holds : (rs : List Row) → judged rs ≡ passes → NoneHolds rs
none-holds [] e = tt
none-holds (r ∷ rs) e = go r.holds e (none-holds rs)
  where
    go : (t : Bool) → cond t (stops r.gives) (judged rs) ≡ passes → (judged rs ≡ passes → NoneHolds rs) → (t ≡ false) × NoneHolds rs
    go true e ih = cc
    go false e ih = (refl, ih e)

-- ---- what an answer tells
pub told-found : {T : Type 0} (x : T) (j : Judgement) → is_ok (judged_as x j) ≡ true → j ≡ passes
told-found x passes e = refl
told-found x (stops n) e = cc

-- ---- what a `?` returns
pub residual : {T E : Type 0} {r : Result T E} {e : E} → IsErr r × IsErrAnd r (λ y. y ≡ e) → r ≡ Err e
residual {r = r} h = let w = err_from_is_err_and r h.1 in w.1 ∙ ap Err w.2
