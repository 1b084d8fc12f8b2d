-- Laws of the table of refusals: a call's outcome is that behind the rows exactly where no row holds, and the refusal of a row that holds
-- alone. Assumes nothing.
use Prim.Native.Nat.{ℕ}
use mathlib.Core.Path.{◌≡◌, refl, ap}
use mathlib.Core.Bool.{Bool, true, false, cond, true≢false}
use mathlib.Core.List.{List, [], ◌∷◌}
use Rattle.srtp.specs.declared.Refusal.{Refusal}
use Rattle.srtp.specs.Refusals.{Row, stops, judged}
use Rattle.srtp.specs.Outcomes.{Outcome, refused, done, settled}

-- no row holds: one fact a row, in the table's order
infixr 5 ◌also◌
pub data NoneHolds : List Row → Type 0 where
  none : NoneHolds []
  ◌also◌ : {r : Row} {rs : List Row} → r.holds ≡ false → NoneHolds rs → NoneHolds (r ∷ rs)

pub rows_pass : {S : Type 0} {rs : List Row} (o : Outcome S) → NoneHolds rs → settled (judged rs) o ≡ o
rows_pass o none = refl
rows_pass o (h also hs) = rw h (rows_pass o hs)

-- no row holds but one that refuses with n, and that one holds where t is true
infixr 5 ◌beside◌
pub data OneHolds (t : Bool) (n : Refusal) : List Row → Type 0 where
  this : {r : Row} {rs : List Row} → r.holds ≡ t → r.gives ≡ n → NoneHolds rs → OneHolds t n (r ∷ rs)
  ◌beside◌ : {r : Row} {rs : List Row} → r.holds ≡ false → OneHolds t n rs → OneHolds t n (r ∷ rs)

pub rows-one : {S : Type 0} (t : Bool) {n : Refusal} {rs : List Row} (o : Outcome S) → OneHolds t n rs →
    settled (judged rs) o ≡ cond t (refused n) o
rows-one true o (this h g hs) = rw (h, g)
rows-one false o (this h g hs) = rw h (rows_pass o hs)
rows-one t {rs = r ∷ rs} o (h beside hs) = rw h (rows-one t {rs = rs} o hs)

abbrev is_refused : {S : Type 0} → Outcome S → Bool
is_refused (refused n) = true
is_refused (done p i s) = false

pub rows-done : {S : Type 0} (rs : List Row) (o : Outcome S) (p : List ℕ) (i : ℕ) (s : S) → settled (judged rs) o ≡ done p i s →
    NoneHolds rs × (o ≡ done p i s)
rows-done [] o p i s e = (none, e)
rows-done (r ∷ rs) o p i s e = go r.holds refl e (rows-done rs o p i s)
  where
    go : (t : Bool) → r.holds ≡ t → settled (cond t (stops r.gives) (judged rs)) o ≡ done p i s →
        (settled (judged rs) o ≡ done p i s → NoneHolds rs × (o ≡ done p i s)) → NoneHolds (r ∷ rs) × (o ≡ done p i s)
    go true h e ih = absurd (true≢false (ap is_refused e))
    go false h e ih = (h also (ih e).0, (ih e).1)
