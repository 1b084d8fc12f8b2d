-- The table of refusals (01, 'When the door stays shut'): the number of each, and the first row of a call that holds. Assumes nothing.
use Rattle.std.specs.Prelude.{ℕ, Bool, cond, List, [], ◌∷◌, eqb, Option, None, Some, Result, Ok, Err}
use Rattle.replay.specs.declared.index.NoIndex.{NoIndex}
use Rattle.replay.specs.declared.index.NoIndex.TheVariants as no_index
use Rattle.replay.specs.declared.index.OutOfRange.{OutOfRange}
use Rattle.replay.specs.declared.index.OutOfRange.TheVariants as out_of_range
use Rattle.replay.specs.declared.window.Replayed.{Replayed}
use Rattle.replay.specs.declared.window.Replayed.TheVariants as replayed
use Rattle.srtp.specs.declared.Refusal.{Refusal}
use Rattle.srtp.specs.declared.Refusal.TheVariants.{Setup, Long, Shape, Stream, Room, Key, Order, Spent, Old, Repeat, Forged}

abbrev pub number_of : Refusal → ℕ
number_of Setup = 1
number_of Long = 2
number_of Shape = 3
number_of Stream = 4
number_of Room = 5
number_of Key = 6
number_of Order = 7
number_of Spent = 8
number_of Old = 9
number_of Repeat = 10
number_of Forged = 11

-- the refusal with this number, among some
abbrev pub refusal_among : List Refusal → ℕ → Option Refusal
refusal_among [] n = None
refusal_among (r ∷ rs) n = cond (eqb n (number_of r)) (Some r) (refusal_among rs n)

abbrev pub refusal_of : ℕ → Option Refusal
refusal_of n = refusal_among (Setup ∷ Long ∷ Shape ∷ Stream ∷ Room ∷ Key ∷ Order ∷ Spent ∷ Old ∷ Repeat ∷ Forged ∷ []) n

-- ---- the rows of what finds no index for a packet, and of what has the index already
abbrev pub of_no_index : NoIndex → Refusal
of_no_index no_index.Order = Order
of_no_index no_index.Spent = Spent

abbrev pub of_out_of_range : OutOfRange → Refusal
of_out_of_range out_of_range.Old = Old
of_out_of_range out_of_range.Spent = Spent

abbrev pub of_replayed : Replayed → Refusal
of_replayed replayed.Old = Old
of_replayed replayed.Repeat = Repeat

-- ---- rows
-- a row: where it holds, its refusal is given
pub record Row : Type 0 where
  pub holds : Bool
  pub gives : Refusal

abbrev pub row : Bool → Refusal → Row
row t n = record { holds = t; gives = n }

-- what the rows of a call say: the first that holds refuses; with none the packet passes
pub data Judgement : Type 0 where
  passes : Judgement
  stops : Refusal → Judgement

abbrev pub judged : List Row → Judgement
judged [] = passes
judged (r ∷ rs) = cond r.holds (stops r.gives) (judged rs)

-- and the answer of a step to them: where it passes, what the step found
abbrev pub judged_as : {T : Type 0} → (found : T) → Judgement → Result T Refusal
judged_as x passes = Ok x
judged_as x (stops n) = Err n
