-- What the code of `src/calls.rt` leaves is what the definitions say. Assumes nothing.
use Rattle.std.proofs.Common.{◌≡◌, refl, sym, ap, ◌∙◌, ℕ, ◌-◌, ◌≤◌, arith, List, ◌++◌, length, take, drop, length-append, length-drop, length-take-le, take_all, le-leb}
use Rattle.std.proofs.lemmas.List.{length-replicate}
use Rattle.std.proofs.lemmas.Slice.{drop-append-drop}
use Rattle.std.proofs.Math.Seq.{take-append_seam}
use Rattle.octets.specs.Buffer.{over}
use Rattle.srtp.specs.Outcomes.{Outcome, refused, done, answer_of, buffer_of, SenderShows, ReceiverShows}
use Rattle.srtp.specs.declared.After.{After}
use Rattle.srtp.specs.declared.Receiver.{Receiver}
use Rattle.srtp.specs.declared.Sender.{Sender}
use Rattle.trace_records.specs.Answers.{call_head}
use Rattle.trace_records.specs.Layouts.{room_of}
use Rattle.trace_records.specs.Records.{with_sender, with_receiver, filled, sending, receiving, left_by, Leaves, called, Made}
use Rattle.trace_records.specs.declared.Called.{Called}
use Rattle.trace_records.specs.declared.Contexts.{Contexts}

-- a finished packet is no longer than the buffer, whose length no call changes
packet-short : {S : Type 0} (o : Outcome S) (d d' : List ℕ) → d' ≡ buffer_of o d → length d' ≡ length d → (call_head (answer_of o)).len ≤ length d
unfolding over
packet-short (refused n) d d' e h = omega arith
packet-short (done p i s) d d' e h =
    let l : length (p ++ drop (length p) d) ≡ length d = sym (ap length e) ∙ h in
    omega (arith, length-append p (drop (length p) d), length-drop (length p) d)

-- ---- Contexts::call_on: b is the buffer as it came, d as it was filled, d' as the call left it
module _ (c : Contexts) (b d d' p : List ℕ) (f : d ≡ filled (length b)) (n : length d' ≡ length d) (k : Called) where
  same-room : length d ≡ length b
  same-room = ap length f ∙ length-replicate {A = ℕ} (length b) 0xA5

  pub sent : (call : Sender → List ℕ → ℕ → Outcome Sender) (a : After Sender) → SenderShows (call c.sender p (length d)) c.sender d a d'
      → k ≡ record { head = call_head a.answer; next = with_sender c a.next } → Leaves (sending c (length b) (call c.sender p (length b))) (length b) k d'
  sent call a s e =
      rw (← same-room) (record {
        called = rw (e, s.answer, s.next);
        buffer = s.buffer ∙ ap (buffer_of (call c.sender p (length d))) (f ∙ ap filled (sym same-room));
        short = let m = packet-short (call c.sender p (length d)) d d' s.buffer n in rw (e, s.answer) m;
      })

  pub opened : (call : Receiver → List ℕ → ℕ → Outcome Receiver) (a : After Receiver) → ReceiverShows (call c.receiver p (length d)) c.receiver d a d'
      → k ≡ record { head = call_head a.answer; next = with_receiver c a.next } → Leaves (receiving c (length b) (call c.receiver p (length b))) (length b) k d'
  opened call a s e =
      rw (← same-room) (record {
        called = rw (e, s.answer, s.next);
        buffer = s.buffer ∙ ap (buffer_of (call c.receiver p (length d))) (f ∙ ap filled (sym same-room));
        short = let m = packet-short (call c.receiver p (length d)) d d' s.buffer n in rw (e, s.answer) m;
      })

-- ---- Contexts::call
module _ (c : Contexts) (op : ℕ) (b d : List ℕ) where
  -- x is what the call left in its part of the buffer
  pub call_made : 2 ≤ length b → (room size : ℕ) → room ≡ size → size ≡ room_of b → room ≤ 4096 → 4096 ≤ length d → (k : Called) (x : List ℕ) → length x ≡ length (take room d)
      → Leaves (left_by c op (take (length b - 2) (drop 2 b)) (length (take room d))) (length (take room d)) k x
      → Made (called c op b) op k room d (x ++ drop room d)
  unfolding called
  call_made h room size er es l g k x n s =
      let y : length (take room d) ≡ room = length-take-le room d (omega arith) in
      let q : length (drop 2 b) ≤ length b - 2 = omega (arith, length-drop 2 b) in
      let s' : Leaves (left_by c op (drop 2 b) room) room k x = rw (y, take_all (length b - 2) (drop 2 b) q) at s in
      let w : take room (x ++ drop room d) ≡ x = rw (← (n ∙ y)) (take-append_seam x (drop (length x) d)) in
      record {
        reply = rw (le-leb 2 (length b) h, ← es, ← er, le-leb room 4096 l, w, s'.called, s'.buffer) refl;
        rest = drop-append-drop room d x room (omega arith) (n ∙ y);
        fits = l;
        short = s'.short;
      }
