-- A law of an answer that a test picks: where there is none, the test failed. (`cond_some` of the library is the other half.)
-- Assumes nothing.
use Rattle.std.specs.Prelude.{◌≡◌, Bool, true, false, cond, None, Some}
use mathlib.Core.Path.{refl}

pub cond_none : {A : Type 0} (b : Bool) (x : A) → cond b (Some x) None ≡ None → b ≡ false
cond_none true x e = cc
cond_none false x e = refl
