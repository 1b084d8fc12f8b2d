-- A record of a trace, op and body, and its answer: bytes, and the next contexts. Assumes nothing.
use Rattle.std.specs.Prelude.{ℕ, ◌≤◌, cond, ◌&&◌, List, [], ◌≡◌, eqb, leb, ltb, length, take, drop, replicate, Option, None, Some, MatchOption, Err}
use Rattle.octets.specs.Buffer.{over}
use Rattle.srtp.specs.Outcomes.{Outcome, answer_of, next_of, buffer_of}
use Rattle.srtp.specs.Contexts.{closed_sender, closed_receiver, set_up_sender, set_up_receiver}
use Rattle.srtp.specs.Calls.{send_media, send_control, receive_media, receive_control}
use Rattle.transforms.specs.declared.Cipher.{Cipher}
use Rattle.transforms.specs.declared.Integrity.{Integrity}
use Rattle.srtp.specs.declared.Made as core
use Rattle.srtp.specs.declared.Receiver.{Receiver}
use Rattle.srtp.specs.declared.Refusal.TheVariants.{Setup}
use Rattle.srtp.specs.declared.Sender.{Sender}
use Rattle.trace_records.specs.declared.Head.{Head}
use Rattle.trace_records.specs.declared.Contexts.{Contexts}
use Rattle.trace_records.specs.declared.Called.{Called}
use Rattle.trace_records.specs.declared.Answered.{Answered}
use Rattle.trace_records.specs.Answers.{answer_bytes, misfit_head, call_head, set_up_head}
use Rattle.trace_records.specs.Layouts.{byte_at, cipher_named, set_up_of, sender_settings, rollover_of, known_at, last_number, receiver_settings, room_of, packet_of, call_fits}

-- a call before its set-up is a call on the closed context
abbrev pub start : Contexts
start = record { sender = closed_sender; receiver = closed_receiver }

abbrev pub with_sender : Contexts → Sender → Contexts
with_sender c s = record { sender = s; receiver = c.receiver }

abbrev pub with_receiver : Contexts → Receiver → Contexts
with_receiver c r = record { sender = c.sender; receiver = r }

-- ---- answers
pub record Reply : Type 0 where
  pub bytes : List ℕ
  pub next : Contexts

abbrev pub reply : (op : ℕ) → Head → (buffer : List ℕ) → Contexts → Reply
reply op h buffer c = record { bytes = answer_bytes op h buffer; next = c }

-- a record that does not fit changes no context
abbrev pub misfit : (op : ℕ) → Contexts → Reply
misfit op c = reply op misfit_head [] c

-- ---- set-ups: a refused one leaves the closed context of its kind
unfoldable pub sender_of : Option Cipher → Integrity → List ℕ → core.Made Sender
sender_of (Some cipher) integrity b = set_up_sender (set_up_of cipher integrity b)
sender_of None integrity b = record { answer = Err Setup; context = closed_sender }

unfoldable pub receiver_of : Option Cipher → Integrity → List ℕ → (rollover : ℕ) → Option ℕ → core.Made Receiver
receiver_of (Some cipher) integrity b rollover number = set_up_receiver (set_up_of cipher integrity b) rollover number
receiver_of None integrity b rollover number = record { answer = Err Setup; context = closed_receiver }

-- under what the settings select, if they and the body fit
unfoldable pub sender_under : Option Integrity → Contexts → (op : ℕ) → (body : List ℕ) → Reply
sender_under (Some integrity) c op b =
    let made = sender_of (cipher_named (byte_at 1 b)) integrity b in
    reply op (set_up_head made.answer) [] (with_sender c made.context)
sender_under None c op b = misfit op c

unfoldable pub receiver_under : Option Integrity → Contexts → (op : ℕ) → (body : List ℕ) → Reply
receiver_under (Some integrity) c op b =
    let made = receiver_of (cipher_named (byte_at 1 b)) integrity b (rollover_of b) (last_number (known_at b) b) in
    reply op (set_up_head made.answer) [] (with_receiver c made.context)
receiver_under None c op b = misfit op c

unfoldable pub sender_set_up : Contexts → (op : ℕ) → (body : List ℕ) → Reply
sender_set_up c op b = sender_under (sender_settings b) c op b

unfoldable pub receiver_set_up : Contexts → (op : ℕ) → (body : List ℕ) → Reply
receiver_set_up c op b = receiver_under (receiver_settings b) c op b

-- ---- calls: each byte of the outgoing buffer is A5 before
abbrev pub filled : (room : ℕ) → List ℕ
filled room = replicate room 0xA5

abbrev pub of_sender : Contexts → Outcome Sender → Called
of_sender c o = record { head = call_head (answer_of o); next = with_sender c (next_of o c.sender) }

abbrev pub of_receiver : Contexts → Outcome Receiver → Called
of_receiver c o = record { head = call_head (answer_of o); next = with_receiver c (next_of o c.receiver) }

-- what a call leaves in its buffer, and the head of its answer with the next contexts
pub record Left : Type 0 where
  pub called : Called
  pub buffer : List ℕ

abbrev pub sending : Contexts → (room : ℕ) → Outcome Sender → Left
sending c room o = record { called = of_sender c o; buffer = buffer_of o (filled room) }

abbrev pub receiving : Contexts → (room : ℕ) → Outcome Receiver → Left
receiving c room o = record { called = of_receiver c o; buffer = buffer_of o (filled room) }

-- ops 3 to 6
unfoldable pub left_by : Contexts → (op : ℕ) → (packet : List ℕ) → (room : ℕ) → Left
left_by c op p room =
    cond (eqb op 3) (sending c room (send_media c.sender p room))
    (cond (eqb op 4) (sending c room (send_control c.sender p room))
    (cond (eqb op 5) (receiving c room (receive_media c.receiver p room))
    (receiving c room (receive_control c.receiver p room))))

-- what the code of a call promises: `n` is the length of its buffer
pub record Leaves (l : Left) (n : ℕ) (r : Called) (after : List ℕ) : Type 0 where
  pub called : r ≡ l.called
  pub buffer : after ≡ l.buffer
  pub short : r.head.len ≤ n

unfoldable pub called : Contexts → (op : ℕ) → (body : List ℕ) → Reply
called c op b =
    let left = left_by c op (packet_of b) (room_of b) in
    cond (call_fits b) (reply op left.called.head left.buffer left.called.next) (misfit op c)

-- ---- a record
abbrev pub max_body_length : ℕ
max_body_length = 8192

unfoldable pub answered : Contexts → (op : ℕ) → (body : List ℕ) → Reply
answered c op b =
    cond (ltb max_body_length (length b)) (misfit op c)
    (cond (eqb op 1) (sender_set_up c op b)
    (cond (eqb op 2) (receiver_set_up c op b)
    (cond (leb 3 op && leb op 6) (called c op b) (misfit op c))))

-- ---- what the code promises of a record before the answer's head is written: the answer's buffer stands at the start of the one that it is given
pub record Made (a : Reply) (op : ℕ) (k : Called) (room : ℕ) (before after : List ℕ) : Type 0 where
  pub reply : a ≡ reply op k.head (take room after) k.next
  pub rest : drop room after ≡ drop room before
  pub fits : room ≤ 4096
  pub short : k.head.len ≤ room

-- or nothing is written where the record does not fit
pub record Untouched (a : Reply) (op : ℕ) (c : Contexts) (before after : List ℕ) : Type 0 where
  pub reply : a ≡ misfit op c
  pub buffer : after ≡ before

abbrev pub Makes : (a : Reply) (op : ℕ) → Contexts → (before : List ℕ) → Option (Called × ℕ) → (after : List ℕ) → Type 0
Makes a op c before r after = MatchOption r (Untouched a op c before after) (λ v. Made a op v.0 v.1 before after)

-- ---- and of the whole: the answer's bytes at the start of the buffer that it is given, their number, and the next contexts
pub record Shows (a : Reply) (before : List ℕ) (r : Answered) (after : List ℕ) : Type 0 where
  pub len : r.len ≡ length a.bytes
  pub next : r.next ≡ a.next
  pub written : after ≡ over a.bytes before
