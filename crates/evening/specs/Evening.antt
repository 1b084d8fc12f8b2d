-- The whole evening (02, No. 14): a sender's run, what a receiver under the same set-up gets of it in the course of an evening, and what it
-- accepts. Proved of every set-up, with and without RFC 4771's transform, of every run and of every evening (`whole-evening`,
-- `plain-evening` in proofs/WholeEvening; `nothing-lost` in proofs/InOrder). Assumes nothing.
use Rattle.std.specs.Prelude.{ℕ, ◌+◌, ◌≤◌, ◌<◌, ◌≡◌, ◌⊎◌, Bool, true, false, cond, List, [], ◌∷◌, ◌++◌, length, Option, None, Some, Err}
use Rattle.replay.specs.Accepted.{mem, highest_of}
use Rattle.replay.specs.Window.{window_length}
use Rattle.session.specs.SetUps.{SetUp}
use Rattle.srtp.specs.declared.Refusal.{Refusal}
use Rattle.srtp.specs.declared.Refusal.TheVariants.{Repeat}
use Rattle.srtp.specs.declared.Receiver.{Receiver}
use Rattle.srtp.specs.Outcomes.{Outcome, answer_of}
use Rattle.demands.specs.Runs.{media, Call, sender_outcome, receiver_outcome, sent_by}
use Rattle.demands.specs.Words.{FinishedAt, comes_out, Finishes, Carries, has_whole_index, accepted_as}

-- ---- the sender's run
-- a media packet of the run: a call in it that sends media, and finishes a packet with this index
pub record Genuine (u : SetUp) (run : List Call) : Type 0 where
  pub earlier : List Call
  pub call : Call
  pub later : List Call
  pub in_run : run ≡ earlier ++ (call ∷ later)
  pub is_media : call.kind ≡ media
  pub index : ℕ
  pub sent : FinishedAt (sender_outcome u earlier call) index

-- the packet that was sent, and the bytes that came out for it. A run has one of each at an index (`one-packet`)
abbrev pub packet_of : {u : SetUp} {run : List Call} → Genuine u run → List ℕ
packet_of g = g.call.packet

abbrev pub bytes_of : {u : SetUp} {run : List Call} → Genuine u run → List ℕ
bytes_of {u} g = comes_out (sender_outcome u g.earlier g.call) g.call.buffer

-- ---- the evening: the calls of a receiver's run, one after the other, and where the bytes of each come from
-- the delivery of a genuine packet, which names it; strange bytes, received as media; any call that does not receive media. A packet that is
-- never named is lost, one that is named again is repeated. Strange bytes are any that are not delivered as a packet of the run. (That they
-- differ from every such packet is not asked for: bytes of one that are accepted are a delivery, and must be named as one.) Every list of
-- calls is that of an evening (`every-run`)
pub data Event (u : SetUp) (run : List Call) : Type 0 where
  genuine : Genuine u run → (buffer : List ℕ) → Event u run
  strange : (bytes buffer : List ℕ) → Event u run
  other : (c : Call) → (c.kind ≡ media → ⊥) → Event u run

abbrev pub call_of : {u : SetUp} {run : List Call} → Event u run → Call
call_of (genuine g d) = record { kind = media; packet = bytes_of g; buffer = d }
call_of (strange b d) = record { kind = media; packet = b; buffer = d }
call_of (other c n) = c

abbrev pub calls_of : {u : SetUp} {run : List Call} → List (Event u run) → List Call
calls_of [] = []
calls_of (e ∷ es) = call_of e ∷ calls_of es

-- the genuine indices delivered, in order
abbrev pub delivered : {u : SetUp} {run : List Call} → List (Event u run) → List ℕ
delivered [] = []
delivered (genuine g d ∷ es) = g.index ∷ delivered es
delivered (strange b d ∷ es) = delivered es
delivered (other c n ∷ es) = delivered es

-- in the evening e comes, behind these
abbrev pub Comes : {u : SetUp} {run : List Call} → (evening before : List (Event u run)) → Event u run → Type 0
Comes {u} {run} evening before e = (after : List (Event u run)) × (evening ≡ before ++ (e ∷ after))

-- what the receiver does with it: it was set up with this rollover counter and no sequence number
abbrev pub outcome_of : {u : SetUp} {run : List Call} → (rollover : ℕ) → (before : List (Event u run)) → Event u run → Outcome Receiver
outcome_of {u} rollover before e = receiver_outcome u rollover None (calls_of before) (call_of e)

-- ---- what is supposed
-- behind the highest index h by less than the window (a repeat of h among them)
abbrev pub Behind : (h index : ℕ) → Type 0
Behind h i = (i ≤ h) × (h < i + window_length)

-- ahead of it by less than 32,768; a packet that has its whole index in it (RFC 4771), by any amount
abbrev pub Ahead : (whole : Bool) → (h index : ℕ) → Type 0
Ahead false h i = (h < i) × (i < h + 32768)
Ahead true h i = h < i

-- behind the highest index delivered so far, or ahead of it; the first carries the rollover counter that set-up gave. One that has its
-- whole index in it may be the first with any
abbrev pub KeepsUp : (whole : Bool) → (rollover : ℕ) → (highest : Option ℕ) → (index : ℕ) → Type 0
KeepsUp whole rollover (Some h) i = Behind h i ⊎ Ahead whole h i
KeepsUp false rollover None i = Carries i rollover
KeepsUp true rollover None i = Unit {0}

-- each genuine delivery keeps up with the highest genuine index delivered so far; `whole` says of an index whether its packet has all of it
-- in it
abbrev pub EachKeepsUp : {u : SetUp} {run : List Call} → (whole : ℕ → Bool) → (rollover : ℕ) → (evening : List (Event u run)) → Type 0
EachKeepsUp {u} {run} whole rollover evening =
    (before : List (Event u run)) (g : Genuine u run) (d : List ℕ) → Comes evening before (genuine g d) →
    KeepsUp (whole g.index) rollover (highest_of None (delivered before)) g.index

-- the buffer always has room
abbrev pub HasRoom : {u : SetUp} {run : List Call} → (evening : List (Event u run)) → Type 0
HasRoom {u} {run} evening =
    (before : List (Event u run)) (g : Genuine u run) (d : List ℕ) → Comes evening before (genuine g d) → length (packet_of g) ≤ length d

-- every strange string received as media is refused
abbrev pub IsRefused : {S : Type 0} → Outcome S → Type 0
IsRefused o = (n : Refusal) × (answer_of o ≡ Err n)

abbrev pub StrangeRefused : {u : SetUp} {run : List Call} → (rollover : ℕ) → (evening : List (Event u run)) → Type 0
StrangeRefused {u} {run} rollover evening =
    (before : List (Event u run)) (b d : List ℕ) → Comes evening before (strange b d) → IsRefused (outcome_of rollover before (strange b d))

pub record Supposed (whole : ℕ → Bool) (u : SetUp) (rollover : ℕ) (run : List Call) (evening : List (Event u run)) : Type 0 where
  pub keeps_up : EachKeepsUp whole rollover evening
  pub room : HasRoom evening
  pub strange_refused : StrangeRefused rollover evening

-- ---- what is shown: the media indices accepted are precisely those delivered, each at its first delivery, with the packet that was sent
-- of a list of indices each where it comes first
abbrev pub firsts_behind : (seen : List ℕ) → List ℕ → List ℕ
firsts_behind seen [] = []
firsts_behind seen (i ∷ is) = cond (mem i seen) [] (i ∷ []) ++ firsts_behind (i ∷ seen) is

abbrev pub firsts : List ℕ → List ℕ
firsts is = firsts_behind [] is

pub record Shown (u : SetUp) (rollover : ℕ) (run : List Call) (evening : List (Event u run)) : Type 0 where
  -- the first delivery of an index is accepted as that index, and the packet that was sent comes out
  pub first : (before : List (Event u run)) (g : Genuine u run) (d : List ℕ) → Comes evening before (genuine g d) →
      mem g.index (delivered before) ≡ false → Finishes (outcome_of rollover before (genuine g d)) d (packet_of g) g.index
  -- a later one is refused, as REPEAT
  pub again : (before : List (Event u run)) (g : Genuine u run) (d : List ℕ) → Comes evening before (genuine g d) →
      mem g.index (delivered before) ≡ true → answer_of (outcome_of rollover before (genuine g d)) ≡ Err Repeat
  -- and nothing else is accepted as media
  pub indices : accepted_as u rollover None media (calls_of evening) ≡ firsts (delivered evening)
  pub precisely : (i : ℕ) → mem i (accepted_as u rollover None media (calls_of evening)) ≡ mem i (delivered evening)

-- for both integrity transforms: a media packet has its whole index in it where its tag carries the rollover counter
abbrev pub WholeEvening : (u : SetUp) (rollover : ℕ) (run : List Call) → List (Event u run) → Type 0
WholeEvening u rollover run evening = Supposed (has_whole_index media u) u rollover run evening → Shown u rollover run evening

-- the paragraph without its last sentence, which knows of no such packet. Without RFC 4771's transform it supposes the same
-- (`same-supposed`); with it, more than is needed
abbrev pub PlainEvening : (u : SetUp) (rollover : ℕ) (run : List Call) → List (Event u run) → Type 0
PlainEvening u rollover run evening = Supposed (λ i. false) u rollover run evening → Shown u rollover run evening

-- ---- nothing is lost and nothing overtakes, up to some place in the sender's run: what is delivered is what was sent, one after the other.
-- Then each delivery keeps up by itself with a receiver started with rollover counter 0, whatever comes between (`in_order`), and what was
-- sent is what is accepted (`nothing-lost`)
abbrev pub InOrder : (u : SetUp) (run : List Call) → List (Event u run) → Type 0
InOrder u run evening = (later : List ℕ) × (sent_by u media run ≡ delivered evening ++ later)
