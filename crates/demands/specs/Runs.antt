-- Runs (01, 'What the link carries'): a context from set-up on and a list of calls on it, in any order, refused calls included.
-- Each call takes the context that the call before gave back or left. Assumes nothing.
use Rattle.std.specs.Prelude.{ℕ, List, [], ◌∷◌, ◌++◌, length, Option, Ok, Err}
use Rattle.octets.specs.BigEndian.{Bytes}
use Rattle.srtp.specs.declared.Sender.{Sender}
use Rattle.srtp.specs.declared.Receiver.{Receiver}
use Rattle.srtp.specs.Outcomes.{Outcome, Answer, answer_of, next_of}
use Rattle.session.specs.SetUps.{SetUp}
use Rattle.srtp.specs.Contexts.{set_up_sender, set_up_receiver}
use Rattle.srtp.specs.Calls.{send_media, send_control, receive_media, receive_control}

pub data Kind : Type 0 where
  media : Kind
  control : Kind

-- a call: any bytes to read, and a buffer of any length to write
pub record Call : Type 0 where
  pub kind : Kind
  pub packet : List ℕ
  pub buffer : List ℕ

abbrev pub send : Kind → Sender → (packet : List ℕ) → (room : ℕ) → Outcome Sender
send media = send_media
send control = send_control

abbrev pub receive : Kind → Receiver → (packet : List ℕ) → (room : ℕ) → Outcome Receiver
receive media = receive_media
receive control = receive_control

abbrev pub sending : Sender → Call → Outcome Sender
sending s c = send c.kind s c.packet (length c.buffer)

abbrev pub receiving : Receiver → Call → Outcome Receiver
receiving r c = receive c.kind r c.packet (length c.buffer)

-- the context after a list of calls
abbrev pub after : {S : Type 0} → (S → Call → Outcome S) → S → List Call → S
after call s [] = s
after call s (c ∷ cs) = after call (next_of (call s c) s) cs

abbrev pub sender_after : SetUp → List Call → Sender
sender_after u cs = after sending (set_up_sender u).context cs

abbrev pub receiver_after : SetUp → (rollover : ℕ) → Option ℕ → List Call → Receiver
receiver_after u rollover number cs = after receiving (set_up_receiver u rollover number).context cs

-- the outcome of a call of a run, after the earlier calls
abbrev pub sender_outcome : SetUp → (earlier : List Call) → Call → Outcome Sender
sender_outcome u earlier c = sending (sender_after u earlier) c

abbrev pub receiver_outcome : SetUp → (rollover : ℕ) → Option ℕ → (earlier : List Call) → Call → Outcome Receiver
receiver_outcome u rollover number earlier c = receiving (receiver_after u rollover number earlier) c

-- what the calls of a list are given are bytes, as the types of the code have it
abbrev pub BytesIn : List Call → Type 0
BytesIn [] = Unit {0}
BytesIn (c ∷ cs) = Bytes c.packet × BytesIn cs

-- ---- the indices that calls accept (01: let in), the earliest first
-- an answer with a finished packet gives one index, a refusal none
abbrev pub index_in : Answer → List ℕ
index_in (Ok f) = f.index ∷ []
index_in (Err n) = []

-- as media if the call receives media, as control if it receives control
abbrev pub accepted_by : (k kind : Kind) → Answer → List ℕ
accepted_by media media a = index_in a
accepted_by media control a = []
accepted_by control media a = []
accepted_by control control a = index_in a

abbrev pub accepted : Kind → Receiver → List Call → List ℕ
accepted k r [] = []
accepted k r (c ∷ cs) = accepted_by k c.kind (answer_of (receiving r c)) ++ accepted k (next_of (receiving r c) r) cs

-- ---- the indices that a sender's calls finish (01: sent), the earliest first
abbrev pub sent : Kind → Sender → List Call → List ℕ
sent k s [] = []
sent k s (c ∷ cs) = accepted_by k c.kind (answer_of (sending s c)) ++ sent k (next_of (sending s c) s) cs

abbrev pub sent_by : SetUp → Kind → List Call → List ℕ
sent_by u k cs = sent k (set_up_sender u).context cs
