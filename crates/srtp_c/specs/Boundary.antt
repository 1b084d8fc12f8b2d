-- What the exported functions promise, in the terms of `srtp`: a call on a plain struct is the call on the context that it stands for.
-- Assumes nothing.
use Rattle.std.specs.Prelude.{ℕ, ◌≡◌, cond, ◌&&◌, List, length, eqb, Option, None, Some, Result}
use Rattle.srtp.specs.declared.Refusal.TheVariants.{Setup}
use Rattle.srtp.specs.declared.Refusal.{Refusal}
use Rattle.srtp.specs.declared.Made.{Made}
use Rattle.srtp.specs.declared.Sender as core-sender
use Rattle.srtp.specs.declared.Receiver as core-receiver
use Rattle.srtp.specs.Refusals.{number_of}
use Rattle.srtp.specs.Contexts.{closed_sender, closed_receiver, set_up_sender, set_up_receiver}
use Rattle.srtp.specs.Outcomes as core
use Rattle.srtp.specs.Outcomes.{Outcome, refused, done, answer_of, buffer_of, shown, set_up_shown}
use Rattle.srtp.specs.Calls.{send_media, send_control, receive_media, receive_control}
use Rattle.srtp_c.specs.declared.After.{After}
use Rattle.srtp_c.specs.declared.Answer.{Answer}
use Rattle.srtp_c.specs.declared.Profile.{Profile}
use Rattle.srtp_c.specs.declared.Sender.{Sender}
use Rattle.srtp_c.specs.declared.Receiver.{Receiver}
use Rattle.srtp_c.specs.declared.SenderSetUp.{SenderSetUp}
use Rattle.srtp_c.specs.declared.ReceiverSetUp.{ReceiverSetUp}
use Rattle.srtp_c.specs.Plain.{two_cased, profile_named, profile_of, sender_of, plain_sender, receiver_of, plain_receiver}

-- ---- calls
-- an answer in numbers: those of the table of refusals
abbrev pub plain_answer : core.Answer → Answer
plain_answer a = record { number = (shown a).number; len = (shown a).len; index = (shown a).index }

-- the struct after a call: as it was where the call is refused, else the plain form of the next context
abbrev pub plain_next : {S P : Type 0} → (S → P) → Outcome S → P → P
plain_next plain (refused n) c = c
plain_next plain (done p i s) c = plain s

-- what a call promises of the answer, the struct and the buffer
pub record Shows {S P : Type 0} (plain : S → P) (o : Outcome S) (old : P) (before : List ℕ) (answer : Answer) (next : P) (after : List ℕ) : Type 0 where
  pub answers : answer ≡ plain_answer (answer_of o)
  pub leaves : next ≡ plain_next plain o old
  pub writes : after ≡ buffer_of o before

abbrev pub SendsMedia : Sender → (packet before : List ℕ) → After Sender → (after : List ℕ) → Type 0
SendsMedia c p d r e = Shows plain_sender (send_media (sender_of c) p (length d)) c d r.answer r.next e

abbrev pub SendsControl : Sender → (packet before : List ℕ) → After Sender → (after : List ℕ) → Type 0
SendsControl c p d r e = Shows plain_sender (send_control (sender_of c) p (length d)) c d r.answer r.next e

abbrev pub ReceivesMedia : Receiver → (packet before : List ℕ) → After Receiver → (after : List ℕ) → Type 0
ReceivesMedia c p d r e = Shows plain_receiver (receive_media (receiver_of c) p (length d)) c d r.answer r.next e

abbrev pub ReceivesControl : Receiver → (packet before : List ℕ) → After Receiver → (after : List ℕ) → Type 0
ReceivesControl c p d r e = Shows plain_receiver (receive_control (receiver_of c) p (length d)) c d r.answer r.next e

-- an exported call gives the answer back and leaves the next context in the struct that it was lent
abbrev pub sender_after : Answer → Sender → After Sender
sender_after a c = record { answer = a; next = c }

abbrev pub receiver_after : Answer → Receiver → After Receiver
receiver_after a c = record { answer = a; next = c }

-- ---- set-up: a cipher, an integrity transform, or a mark for a known last number, that is not 0 or 1 is refused as SETUP
abbrev pub set_up_number : Result Unit Refusal → ℕ
set_up_number a = (set_up_shown a).number

abbrev pub number_given : (known number : ℕ) → Option ℕ
number_given known q = cond (eqb known 1) (Some q) None

abbrev pub sender_made : Made core-sender.Sender → SenderSetUp
sender_made m = record { number = set_up_number m.answer; context = plain_sender m.context }

abbrev pub sender_refused : SenderSetUp
sender_refused = record { number = number_of Setup; context = plain_sender closed_sender }

unfoldable pub plain_set_up_sender : (ssrc : ℕ) → (key salt mki : List ℕ) → Profile → SenderSetUp
plain_set_up_sender ssrc key salt mki p =
    cond (profile_named p)
    (sender_made (set_up_sender (record { ssrc = ssrc; master_key = key; master_salt = salt; mki = mki; profile = profile_of p })))
    sender_refused

abbrev pub receiver_made : Made core-receiver.Receiver → ReceiverSetUp
receiver_made m = record { number = set_up_number m.answer; context = plain_receiver m.context }

abbrev pub receiver_refused : ReceiverSetUp
receiver_refused = record { number = number_of Setup; context = plain_receiver closed_receiver }

unfoldable pub plain_set_up_receiver : (ssrc : ℕ) → (key salt mki : List ℕ) → Profile → (rollover known number : ℕ) → ReceiverSetUp
plain_set_up_receiver ssrc key salt mki p rollover known number =
    cond (profile_named p && two_cased known)
    (receiver_made
    (set_up_receiver (record { ssrc = ssrc; master_key = key; master_salt = salt; mki = mki; profile = profile_of p }) rollover (number_given known number)))
    receiver_refused
