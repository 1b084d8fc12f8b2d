-- A packet at the desk: the receivers, and the ways out of `Listener::receive`. Assumes nothing.
use Rattle.std.specs.Prelude.{Some, Ok, Err}
use Prim.Native.Nat.{ℕ, ◌+◌, ◌≤◌, ◌<◌}
use mathlib.Core.Bool.{Bool, true, false, cond, not}
use mathlib.Core.List.{List, ◌++◌, append_assoc}
use mathlib.Core.Path.{◌≡◌, refl, sym, ap, ap₂, ◌∙◌}
use native.Mathlib.Omega.{arith}
use lib.Dec.{ltb}
use lib.ListN.{length, take, drop, length-append, length-drop, take-append-drop}
use lib.Seq.{length-take-le, drop-drop, drop_at, drop-append-le}
use Rattle.octets.specs.BigEndian.{to_bytes}
use Rattle.octets.specs.Buffer.{over, over_at}
use Rattle.octets.proofs.BigEndianLaws.{length-to_bytes}
use Rattle.rtp.specs.Rtp.{is_rtp, header_length}
use Rattle.rtp.proofs.RtpLaws.{header-least, rtp-fits}
use Rattle.rtp.proofs.TrailerLaws.{portion-length}
use Rattle.session.specs.Packets.{mki_bytes, tag_length, ciphered_media}
use Rattle.session.proofs.SessionLaws.{length-ciphered_media}
use Rattle.srtp.specs.Calls.{media_portion, media_index, natural, receive_media_rows, media_opened, receive_media}
use Rattle.srtp.specs.Contexts.{receiver_listed}
use Rattle.srtp.specs.Outcomes.{Outcome, Answer, refused, done, settled, shown, ReceiverShows}
use Rattle.srtp.specs.Refusals.{Judgement, passes, stops, judged}
use Rattle.srtp.specs.declared.After.{After}
use Rattle.srtp.specs.declared.Finished.{Finished}
use Rattle.srtp.specs.declared.Receiver.{Receiver}
use Rattle.srtp.specs.declared.Refusal.{Refusal}
use Rattle.srtp.specs.declared.Refusal.TheVariants.{Setup, Long, Shape}
use Rattle.desk.specs.Framing.{framed}
use Rattle.desk.specs.Listening.{receiver_for, received, after, written}
use Rattle.desk.specs.Reads.{Receives}
use Rattle.desk.specs.declared.Listener.{Listener}

-- ---- what an outcome can be
pub record IsRefused (o : Outcome Receiver) : Type 0 where
  pub why : Refusal
  pub is : o ≡ refused why

-- a packet too short to have an SSRC is refused, whatever the receiver
module _ (c : Receiver) (p : List ℕ) (h : length p < 12) where
  abbrev portion : List ℕ
  portion = media_portion c.session p

  not-rtp : (t : Bool) → is_rtp portion ≡ t → is_rtp portion ≡ false
  not-rtp true e =
      let f : header_length portion ≤ length portion = rtp-fits portion e in
      absurd (omega (arith, header-least portion, portion-length (length (mki_bytes c.session)) (tag_length c.session) p))
  not-rtp false e = e

  stopped : (x y w : Bool) (j : Judgement) (o : Outcome Receiver) → w ≡ false
      → IsRefused (settled (cond x (stops Setup) (cond y (stops Long) (cond (not w) (stops Shape) j))) o)
  stopped true y w j o e = record { why = Setup; is = refl }
  stopped false true w j o e = record { why = Long; is = refl }
  stopped false false false j o e = record { why = Shape; is = refl }
  stopped false false true j o e = cc

  pub short-refused : (room : ℕ) → IsRefused (receive_media c p room)
  unfolding receive_media
  short-refused room = stopped (not (receiver_listed c)) (ltb 2048 (length portion)) (is_rtp portion) _ _ (not-rtp (is_rtp portion) refl)

-- an opened packet is no longer than the one received
module _ (c : Receiver) (p : List ℕ) where
  settled-length : (j : Judgement) (i : ℕ) → length (written (settled j (media_opened c p i))) ≤ 2 + length p
  unfolding framed
  settled-length passes i =
      let s = c.session in
      let a : List ℕ = media_portion s p in
      omega (
        arith,
        length-append (to_bytes 2 (length (ciphered_media s a i))) (ciphered_media s a i),
        length-to_bytes 2 (length (ciphered_media s a i)),
        length-ciphered_media s a i,
        portion-length (length (mki_bytes s)) (tag_length s) p,
      )
  settled-length (stops n) i = omega arith

  pub opened-length : (room : ℕ) → length (written (receive_media c p room)) ≤ 2 + length p
  unfolding receive_media
  opened-length room = settled-length (judged (receive_media_rows c p room (media_index c p))) (natural (media_index c p))

pub written-length : (l : Listener) (p : List ℕ) → length (written (received l p)) ≤ 2 + length p
unfolding received
written-length l p = opened-length (receiver_for l p) p 2048

-- ---- Listener::receive
module _ (l : Listener) (p d : List ℕ) where
  nothing_written : (n : Refusal) → refused n ≡ received l p → Receives l p d l 0 d
  unfolding over
  nothing_written n e =
      record {
        next = ap (after l) e;
        len = ap (λ (o : Outcome Receiver). length (written o)) e;
        written = ap (λ (o : Outcome Receiver). over (written o) d) e;
      }

  pub receives-short : length p < 12 → Receives l p d l 0 d
  unfolding received
  receives-short h =
      let r = short-refused (receiver_for l p) p h 2048 in
      nothing_written r.why (sym r.is)

  abbrev fixed_on : Receiver → Listener
  fixed_on c = record { key = l.key; fixed = Some c }

  -- the part of the buffer that is lent
  abbrev part : List ℕ
  part = take 2048 (drop 2 d)

  module _ (h : 2050 ≤ length d) where
    part_length : length part ≡ 2048
    part_length = length-take-le 2048 (drop 2 d) (omega (arith, length-drop 2 d))

    part-whole : take 2 d ++ (part ++ drop 2048 (drop 2 d)) ≡ d
    part-whole = rw (take-append-drop 2048 (drop 2 d)) (take-append-drop 2 d)

    -- x is the part as the call left it; the call's room is the part's length
    module _ (a : After Receiver) (x : List ℕ) (c : Receiver) (r : c ≡ receiver_for l p)
        (s : ReceiverShows (receive_media c p (length part)) c part a x) where
      abbrev out : List ℕ
      out = take 2 d ++ (x ++ drop 2048 (drop 2 d))

      outcome : receive_media c p (length part) ≡ received l p
      unfolding received
      outcome = ap₂ (λ (u : Receiver) (v : ℕ). receive_media u p v) r part_length

      refused-by : (o : Outcome Receiver) → o ≡ received l p → ReceiverShows o c part a x → (why : Refusal) → a.answer ≡ Err why → Receives l p d l 0 out
      refused-by (refused m) e s why q = rw (s.buffer, part-whole) (nothing_written m e)
      refused-by (done y i t) e s why q = cc (s.answer)

      pub receives-refused : (why : Refusal) → a.answer ≡ Err why → Receives l p d l 0 out
      receives-refused why q = refused-by (receive_media c p (length part)) outcome s why q

      module _ (n : length x ≡ length part) (f : Finished) (q : a.answer ≡ Ok f) where
        told : (y : List ℕ) (i : ℕ) → a.answer ≡ Ok (record { len = length y; index = i }) → length y ≡ f.len
        told y i e = ap (λ (b : Answer). (shown b).len) (sym e ∙ q)

        short-by : (o : Outcome Receiver) → ReceiverShows o c part a x → f.len ≤ 2048
        unfolding over
        short-by (refused m) s = cc (s.answer)
        short-by (done y i t) s =
            let k : length y ≡ f.len = told y i s.answer in
            omega (arith, part_length, ap length s.buffer, length-append y (drop (length y) part))

        pub opened-short : f.len ≤ 2048
        opened-short = short-by (receive_media c p (length part)) s

        module _ (z : List ℕ) (w : z ≡ over_at 0 (to_bytes 2 f.len) out) where
          opened-by : (o : Outcome Receiver) → o ≡ received l p → ReceiverShows o c part a x → Receives l p d (fixed_on a.next) (2 + f.len) z
          unfolding over over_at framed
          opened-by (refused m) e s = cc (s.answer)
          opened-by (done y i t) e s =
              let k : f.len ≡ length y = sym (told y i s.answer) in
              let g : length y ≤ length part = omega (arith, part_length, opened-short) in
              let b : List ℕ = to_bytes 2 (length y) in
              let v : x ++ drop 2048 (drop 2 d) ≡ y ++ drop (length y) (drop 2 d) =
              ap (λ (u : List ℕ). u ++ drop 2048 (drop 2 d)) s.buffer ∙ append_assoc y (drop (length y) part) (drop 2048 (drop 2 d))
              ∙ ap (λ (u : List ℕ). y ++ u)
              (sym (drop-append-le (length y) part (drop 2048 (drop 2 d)) g) ∙ ap (drop (length y)) (take-append-drop 2048 (drop 2 d))) in
              let m : length (b ++ y) ≡ 2 + length y = length-append b y ∙ ap (λ (u : ℕ). u + length y) (length-to_bytes 2 (length y)) in
              let o : z ≡ (b ++ y) ++ drop (length (b ++ y)) d =
              w ∙ ap (λ (u : ℕ). to_bytes 2 u ++ drop (length (to_bytes 2 u)) out) k
              ∙ ap (λ (u : ℕ). b ++ drop u out) (length-to_bytes 2 (length y))
              ∙ ap (λ (u : List ℕ). b ++ u) (drop_at (take 2 d) (x ++ drop 2048 (drop 2 d)) 2 (length-take-le 2 d (omega arith)) ∙ v)
              ∙ sym (append_assoc b y (drop (length y) (drop 2 d)))
              ∙ ap (λ (u : List ℕ). (b ++ y) ++ u) (drop-drop (length y) 2 d ∙ ap (λ (u : ℕ). drop u d) (sym m)) in
              record {
                next = ap fixed_on s.next ∙ ap (after l) e;
                len = ap (λ (u : ℕ). 2 + u) k ∙ sym m ∙ ap (λ (u : Outcome Receiver). length (written u)) e;
                written = o ∙ ap (λ (u : Outcome Receiver). over (written u) d) e;
              }

          pub receives-opened : Receives l p d (fixed_on a.next) (2 + f.len) z
          receives-opened = opened-by (receive_media c p (length part)) outcome s
