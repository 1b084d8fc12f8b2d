-- The demands on runs, in 01's words: proved of every set-up, also one that is refused, and of every list of calls (`refusal-keeps`,
-- `sender-keeps` and `receiver-keeps` in proofs/Demand1, `sender-demand2`, `receiver-demand2`, `sender-demand3`, `receiver-demand3`).
-- `Bytes c.packet` says that what a call reads are bytes, numbers below 256; only where a number is read from them and written again
-- is it asked for. Likewise `receiver-demand3` is told that the rollover counter has 32 bits and a last number 16 (`NumberFits`), as the types
-- of the code give. Assumes nothing.
use Rattle.std.specs.Prelude.{ℕ, ◌≤◌, ◌≡◌, true, List, ◌∷◌, ◌++◌, length, drop, Option, Ok, Err}
use Rattle.octets.specs.BigEndian.{Bytes}
use Rattle.replay.specs.Accepted.{Once}
use Rattle.srtp.specs.declared.Refusal.{Refusal}
use Rattle.srtp.specs.Outcomes.{Outcome, answer_of, next_of, buffer_of}
use Rattle.session.specs.SetUps.{SetUp, listed}
use Rattle.demands.specs.Runs.{Kind, Call, sender_outcome, receiver_outcome}
use Rattle.demands.specs.Words.{FinishedAt, comes_out, Finishes, protected, Plain, Made, protected_as, TagFor, accepted_as, New, WithinReach}

-- ---- demand 1, second part: what a call does with a context s and a buffer d, whichever call and context
-- a refusal leaves context and buffer as they stood
pub record RefusalKeeps {S : Type 0} (o : Outcome S) (s : S) (d : List ℕ) : Type 0 where
  pub context : (n : Refusal) → answer_of o ≡ Err n → next_of o s ≡ s
  pub buffer : (n : Refusal) → answer_of o ≡ Err n → buffer_of o d ≡ d

-- a finished packet fits into the buffer, and the bytes behind it stay
pub record SuccessKeeps {S : Type 0} (o : Outcome S) (d : List ℕ) : Type 0 where
  pub fits : (len i : ℕ) → answer_of o ≡ Ok (record { len = len; index = i }) → len ≤ length d
  pub size : (len i : ℕ) → answer_of o ≡ Ok (record { len = len; index = i }) → length (buffer_of o d) ≡ length d
  pub behind : (len i : ℕ) → answer_of o ≡ Ok (record { len = len; index = i }) → drop len (buffer_of o d) ≡ drop len d

-- ---- demand 2
-- whatever a run of a sender finishes at i is what RFC 3711 makes of the packet at i. It is made, so demand 3 speaks of it. Under a
-- set-up that is refused nothing is finished.
pub record SenderDemand2 (u : SetUp) : Type 0 where
  pub ready : (earlier : List Call) (c : Call) (i : ℕ) → FinishedAt (sender_outcome u earlier c) i → listed u ≡ true
  pub finishes : (earlier : List Call) (c : Call) (i : ℕ) → FinishedAt (sender_outcome u earlier c) i →
      Finishes (sender_outcome u earlier c) c.buffer (protected c.kind u c.packet i) i
  pub makes : (earlier : List Call) (c : Call) (i : ℕ) → Bytes c.packet → FinishedAt (sender_outcome u earlier c) i →
      Made c.kind u c.packet i (comes_out (sender_outcome u earlier c) c.buffer)

-- whatever a run of a receiver accepts at i comes out as a packet for i that RFC 3711 turns into the bytes received. Under a set-up that
-- is refused nothing is accepted.
pub record Opened (k : Kind) (u : SetUp) (received p : List ℕ) (i : ℕ) : Type 0 where
  pub plain : Plain k u p i
  pub bytes : received ≡ protected_as k u received p i
  pub tag : TagFor k u received i

pub record ReceiverDemand2 (u : SetUp) (rollover : ℕ) (number : Option ℕ) : Type 0 where
  pub ready : (earlier : List Call) (c : Call) (i : ℕ) → FinishedAt (receiver_outcome u rollover number earlier c) i → listed u ≡ true
  pub opens : (earlier : List Call) (c : Call) (i : ℕ) → Bytes c.packet → FinishedAt (receiver_outcome u rollover number earlier c) i →
      Opened c.kind u c.packet (comes_out (receiver_outcome u rollover number earlier c) c.buffer) i

-- ---- demand 3
-- two packets that differ, finished at one index under one set-up, in whatever runs, come out as different bytes
pub record SenderDemand3 (u : SetUp) : Type 0 where
  pub differ : (earlier earlier' : List Call) (c c' : Call) (i : ℕ) → c.kind ≡ c'.kind →
      FinishedAt (sender_outcome u earlier c) i → FinishedAt (sender_outcome u earlier' c') i → (c.packet ≡ c'.packet → ⊥) →
      comes_out (sender_outcome u earlier c) c.buffer ≡ comes_out (sender_outcome u earlier' c') c'.buffer → ⊥

-- one claim about a receiver's whole list of calls: no index is accepted twice as media, nor twice as control; and each call whose bytes
-- are made under the receiver's set-up, new and within reach, and whose buffer has room, accepts them as their index, and they come out
-- as the packet that they were made from
pub record ReceiverDemand3 (u : SetUp) (rollover : ℕ) (number : Option ℕ) (calls : List Call) : Type 0 where
  pub once : (k : Kind) → Once (accepted_as u rollover number k calls)
  pub accepts : (earlier : List Call) (c : Call) (later : List Call) → calls ≡ earlier ++ (c ∷ later) → (p : List ℕ) (i : ℕ) →
      Made c.kind u p i c.packet → New u rollover number c.kind earlier i → WithinReach u rollover number c.kind earlier i →
      length p ≤ length c.buffer → Finishes (receiver_outcome u rollover number earlier c) c.buffer p i
