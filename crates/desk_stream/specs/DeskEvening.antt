-- The whole evening (02, No. 14) at the sale desk: what a network delivers of a sender's run, strange packets among it, in frames, and what
-- the desk writes for it. Proved of every key file, every run of a sender and every evening (`desk-evening` in proofs/DeskEvening), and of
-- every run of the code (`run-evening` there). Assumes nothing.
use Rattle.std.specs.Prelude.{ℕ, false, cond, List, [], ◌∷◌, ◌++◌}
use Rattle.replay.specs.Accepted.{mem}
use Rattle.session.specs.SetUps.{SetUp}
use Rattle.demands.specs.Runs.{Call}
use Rattle.evening.specs.Evening.{Genuine, packet_of, bytes_of, Event, genuine, strange, EachKeepsUp, StrangeRefused}
use Rattle.desk.specs.Framing.{Framed}
use Rattle.desk.specs.Listening.{set_up_under}
use Rattle.desk_stream.specs.Streams.{room, EachRefused}

-- ---- the evening: the frames that come in, one after the other, and where the packet in each comes from
-- the delivery of a genuine media packet of the run, which names it; or stray bytes
pub data Arrival (u : SetUp) (run : List Call) : Type 0 where
  delivery : Genuine u run → Arrival u run
  stray : (bytes : List ℕ) → Arrival u run

module _ {u : SetUp} {run : List Call} where
  -- the packets in the frames
  abbrev pub arriving : List (Arrival u run) → List (List ℕ)
  arriving [] = []
  arriving (delivery g ∷ xs) = bytes_of g ∷ arriving xs
  arriving (stray b ∷ xs) = b ∷ arriving xs

  -- the stray ones
  abbrev pub strays : List (Arrival u run) → List (List ℕ)
  strays [] = []
  strays (delivery g ∷ xs) = strays xs
  strays (stray b ∷ xs) = b ∷ strays xs

  -- and those of them before the first delivery
  abbrev pub strays_first : List (Arrival u run) → List (List ℕ)
  strays_first [] = []
  strays_first (delivery g ∷ xs) = []
  strays_first (stray b ∷ xs) = b ∷ strays_first xs

  -- as an evening of one receiver, with room for any packet
  abbrev pub event_of : Arrival u run → Event u run
  event_of (delivery g) = genuine g room
  event_of (stray b) = strange b room

  abbrev pub events_of : List (Arrival u run) → List (Event u run)
  events_of [] = []
  events_of (x ∷ xs) = event_of x ∷ events_of xs

  -- what is to be written: of each delivery whose index was not delivered before, the packet that was sent
  abbrev pub opened_behind : (seen : List ℕ) → List (Arrival u run) → List (List ℕ)
  opened_behind seen [] = []
  opened_behind seen (delivery g ∷ xs) = cond (mem g.index seen) [] (packet_of g ∷ []) ++ opened_behind (g.index ∷ seen) xs
  opened_behind seen (stray b ∷ xs) = opened_behind seen xs

  abbrev pub opened : List (Arrival u run) → List (List ℕ)
  opened xs = opened_behind [] xs

-- ---- what is supposed
-- what `plain-evening` supposes of a receiver started with rollover counter 0 (room there is); that the stray packets before the first
-- delivery are refused under their own SSRCs too, under which the desk tries them; and that two bytes hold the length of a stray packet. It may
-- be too long for the desk, which skips it then.
pub record SupposedAtDesk (key : List ℕ) (ssrc : ℕ) (run : List Call) (evening : List (Arrival (set_up_under key ssrc) run)) : Type 0 where
  pub keeps_up : EachKeepsUp (λ i. false) 0 (events_of evening)
  pub stray_refused : StrangeRefused 0 (events_of evening)
  pub own_refused : EachRefused key (strays_first evening)
  pub stray_fits : Framed (strays evening)
