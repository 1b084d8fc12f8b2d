-- An evening at the desk that is as supposed, and what is written in it: a frame of no bytes before the first delivery and behind it, two
-- packets about the rollover of the sequence number, and the first of them again. No cipher and no tag is computed. Assumes nothing.
use Prim.Native.Nat.{ℕ}
use native.Mathlib.Omega.{arith}
use mathlib.Core.Path.{◌≡◌, refl}
use mathlib.Core.Logic.{inl, inr}
use mathlib.Core.Bool.{false}
use mathlib.Core.List.{List, [], ◌∷◌}
use lib.ListN.{replicate}
use Rattle.evening.specs.Evening.{Supposed}
use Rattle.evening.proofs.Witness.{supposed, numbered, numbered-bytes, empty-refused, plain, plain_run, p₁, p₂}
use Rattle.desk.specs.Framing.{frames}
use Rattle.desk.specs.Listening.{output}
use Rattle.desk_stream.specs.DeskEvening.{Arrival, delivery, stray, arriving, events_of, SupposedAtDesk}
use Rattle.desk_stream.proofs.OneStream.{room-length}
use Rattle.desk_stream.proofs.DeskEvening.{desk-evening}

-- the set-up of `plain` is that of a key file of zeros and SSRC 1
abbrev zeros : List ℕ
zeros = replicate 30 0

abbrev evening : List (Arrival plain plain_run)
evening = stray [] ∷ delivery p₁ ∷ stray [] ∷ delivery p₂ ∷ delivery p₁ ∷ []

as-supposed : Supposed (λ i. false) plain 0 plain_run (events_of evening)
unfolding p₁ p₂
as-supposed =
    supposed (λ i. false) 0 (events_of evening) (
      empty-refused _ _,
      (
        (refl, omega (arith, room-length)),
        (
          empty-refused _ _,
          (
            (inr (omega arith, omega arith), omega (arith, room-length)),
            ((inl (omega arith, omega arith), omega (arith, room-length)), tt),
          ),
        ),
      ),
    )

at-desk : SupposedAtDesk zeros 1 plain_run evening
at-desk =
    record {
      keeps_up = as-supposed.keeps_up;
      stray_refused = as-supposed.strange_refused;
      own_refused = (empty-refused _ _, tt);
      stray_fits = (omega arith, (omega arith, tt));
    }

pub opens-both : output zeros (frames (arriving evening)) ≡ frames (numbered 65535 ∷ numbered 0 ∷ [])
unfolding p₁ p₂
opens-both = desk-evening zeros 1 plain_run evening refl (numbered-bytes 65535, (numbered-bytes 7, (numbered-bytes 0, tt))) at-desk
