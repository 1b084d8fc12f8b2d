-- What a call does, and what its caller sees of it: the answer, the next context and the outgoing buffer. Assumes nothing.
use Rattle.std.specs.Prelude.{ℕ, ◌≡◌, List, length, Result, Ok, Err}
use Rattle.octets.specs.Buffer.{over}
use Rattle.srtp.specs.Refusals.{number_of, Judgement, passes, stops}
use Rattle.srtp.specs.declared.Refusal.{Refusal}
use Rattle.srtp.specs.declared.Finished.{Finished}
use Rattle.srtp.specs.declared.Sender.{Sender}
use Rattle.srtp.specs.declared.Receiver.{Receiver}
use Rattle.srtp.specs.declared.After.{After}
use Rattle.srtp.specs.declared.Made.{Made}

-- a refusal; or the finished packet, its index and the next context
pub data Outcome (S : Type 0) : Type 0 where
  refused : Refusal → Outcome S
  done : (packet : List ℕ) → (index : ℕ) → S → Outcome S

-- a call's rows, and what it does where none holds
abbrev pub settled : {S : Type 0} → Judgement → Outcome S → Outcome S
settled passes o = o
settled (stops n) o = refused n

-- what a call answers
abbrev pub Answer : Type 0
Answer = Result Finished Refusal

-- a refusal is answered alone, and changes neither context nor buffer
abbrev pub answer_of : {S : Type 0} → Outcome S → Answer
answer_of (refused n) = Err n
answer_of (done p i s) = Ok (record { len = length p; index = i })

abbrev pub next_of : {S : Type 0} → Outcome S → S → S
next_of (refused n) old = old
next_of (done p i s) old = s

-- a success writes the whole packet from the buffer's start, and leaves the bytes behind it alone
abbrev pub buffer_of : {S : Type 0} → Outcome S → List ℕ → List ℕ
buffer_of (refused n) d = d
buffer_of (done p i s) d = over p d

-- an answer in the table's terms: its number (0: none), and the length and index of a finished packet
pub record Shown : Type 0 where
  pub number : ℕ
  pub len : ℕ
  pub index : ℕ

abbrev pub shown : Answer → Shown
shown (Ok f) = record { number = 0; len = f.len; index = f.index }
shown (Err n) = record { number = number_of n; len = 0; index = 0 }

-- and what set-up answers
abbrev pub set_up_shown : Result Unit Refusal → Shown
set_up_shown (Ok u) = record { number = 0; len = 0; index = 0 }
set_up_shown (Err n) = record { number = number_of n; len = 0; index = 0 }

-- ---- what a call promises: each thing that the caller sees is the outcome's
pub record CallShows {C : Type 0} (o : Outcome C) (old : C) (before : List ℕ) (r : After C) (after : List ℕ) : Type 0 where
  pub answer : r.answer ≡ answer_of o
  pub shows : shown r.answer ≡ shown (answer_of o)
  pub next : r.next ≡ next_of o old
  pub buffer : after ≡ buffer_of o before

abbrev pub SenderShows : Outcome Sender → (old : Sender) → (before : List ℕ) → After Sender → (after : List ℕ) → Type 0
SenderShows = CallShows

abbrev pub ReceiverShows : Outcome Receiver → (old : Receiver) → (before : List ℕ) → After Receiver → (after : List ℕ) → Type 0
ReceiverShows = CallShows

-- and what set-up promises
pub record MadeShows {C : Type 0} (made r : Made C) : Type 0 where
  pub is : r ≡ made
  pub shows : set_up_shown r.answer ≡ set_up_shown made.answer

abbrev pub SenderSetUpShows : (made r : Made Sender) → Type 0
SenderSetUpShows = MadeShows

abbrev pub ReceiverSetUpShows : (made r : Made Receiver) → Type 0
ReceiverSetUpShows = MadeShows
