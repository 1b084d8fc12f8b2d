-- The rows of receiving media by the steps of the code. Assumes nothing.
use mathlib.Core.Bool.{Bool, true, false, not}
use mathlib.Core.List.{List, [], ◌∷◌}
use mathlib.Core.Path.{◌≡◌, refl, sym, ap, ◌∙◌}
use Prim.Native.Nat.{ℕ, ◌+◌, ◌-◌, ◌≤◌, ◌<◌}
use native.Mathlib.Omega.{arith}
use borrow.Author.Tests.{lt-ltb, le-ltb}
use lib.Dec.{ltb}
use lib.IntN.{ℤ, pos, negsuc}
use lib.ListN.{length, take, drop, length-take, length-drop}
use Rattle.std.specs.Prelude.{Option, None, Some, Result, Ok, Err, is_some}
use Rattle.octets.specs.Equal.{same}
use Rattle.replay.specs.Index.{max_media_index, placed}
use Rattle.replay.specs.Window.{window_length, window_verdict}
use Rattle.replay.specs.declared.index.OutOfRange.{OutOfRange}
use Rattle.rtp.proofs.RtpLaws.{header-least, rtp-fits}
use Rattle.rtp.proofs.SrtpLaws.{srtp-read, srtp-unread}
use Rattle.rtp.proofs.TrailerLaws.{portion-length}
use Rattle.rtp.specs.Protected.{authenticated_portion, mki_of, srtp_layout_of}
use Rattle.rtp.specs.Rtp.{is_rtp, header_length, sequence_number, rtp_ssrc}
use Rattle.rtp.specs.declared.SrtpLayout.{SrtpLayout}
use Rattle.session.specs.Packets.{mki_bytes, media_tag}
use Rattle.session.proofs.SessionLaws.{mki-length}
use Rattle.srtp.specs.Calls.{too_high, is_repeat, old, natural, media_portion, media_place}
use Rattle.srtp.specs.Contexts.{receiver_listed}
use Rattle.srtp.specs.ReceiverSteps.{address_rows, replay_rows, address_verdict, replay_verdict, placed_media, media_verdict}
use Rattle.srtp.specs.Refusals.{Row, row, judged, judged_as, of_out_of_range}
use Rattle.srtp.specs.declared.Receiver.{Receiver}
use Rattle.srtp.specs.declared.Refusal.{Refusal}
use Rattle.srtp.specs.declared.Refusal.TheVariants.{Setup, Long, Shape, Spent, Old, Repeat, Forged}
use Rattle.srtp.specs.declared.receiving.MediaOpening.{MediaOpening}
use Rattle.srtp.proofs.ListedLaws.{receiver_lengths}
use Rattle.srtp.proofs.ReceiverLaws.{some_where, and_then, judged-append, to_end}

-- ---- where header, MKI and tag of a packet lie that was read
abbrev media_layout : (m t : ℕ) → List ℕ → SrtpLayout
media_layout m t b =
    let a = authenticated_portion m t b in
    record {
      header = record { len = header_length a; sequence_number = sequence_number a; ssrc = rtp_ssrc a };
      mki = length b - (m + t);
      tag = length b - t;
    }

pub record MediaPlaces (m t : ℕ) (b : List ℕ) : Type 0 where
  pub told : srtp_layout_of m t b ≡ Some (media_layout m t b)
  pub fits : 12 + m + t ≤ length b

pub media_places : (m t : ℕ) (b : List ℕ) → is_some (srtp_layout_of m t b) ≡ true → MediaPlaces m t b
unfolding srtp_layout_of
media_places m t b h =
    let a : List ℕ = authenticated_portion m t b in
    let e : is_rtp a ≡ true = some_where (is_rtp a) _ h in
    record { told = rw e refl; fits = omega (arith, rtp-fits a e, header-least a, portion-length m t b) }

-- ---- all rows, by the steps
module _ (c : Receiver) (b : List ℕ) (room : ℕ) where
  -- SPENT to FORGED, from what is found of the index
  abbrev media_at : SrtpLayout → (tag : List ℕ) → Result ℕ OutOfRange → Result MediaOpening Refusal
  media_at l x (Err e) = Err (of_out_of_range e)
  media_at l x (Ok i) =
      and_then (replay_verdict c.media i)
      (judged_as (record { header_len = l.header.len; len = l.mki; index = i })
      (judged (row (not (same x (media_tag c.session (take l.mki b) i))) Forged ∷ [])))

  abbrev media_read : Option SrtpLayout → Result MediaOpening Refusal
  media_read None = Err Shape
  media_read (Some l) =
      let x = take (length b - l.tag) (drop l.tag b) in
      and_then (address_verdict c.session.settings l.header.ssrc l.mki room (take (l.tag - l.mki) (drop l.mki b)))
      (media_at l x (placed_media c l.header.sequence_number x))

  abbrev index_rows : SrtpLayout → (tag : List ℕ) → ℤ → List Row
  index_rows l x k =
      row (too_high k) Spent
      ∷ row (old c.media k) Old
      ∷ row (is_repeat (window_verdict window_length c.media (natural k))) Repeat
      ∷ row (not (same x (media_tag c.session (take l.mki b) (natural k)))) Forged
      ∷ []

  by_place : (l : SrtpLayout) (x : List ℕ) (k : ℤ) →
      judged_as (record { header_len = l.header.len; len = l.mki; index = natural k }) (judged (index_rows l x k)) ≡ media_at l x (placed k)
  unfolding replay_verdict
  by_place l x (negsuc j) = refl
  by_place l x (pos i) = go (ltb max_media_index i) refl
    where
      v : MediaOpening
      v = record { header_len = l.header.len; len = l.mki; index = i }

      go : (y : Bool) → ltb max_media_index i ≡ y → judged_as v (judged (index_rows l x (pos i))) ≡ media_at l x (placed (pos i))
      go true e = rw e
      go false e = rw e (judged-append v (replay_rows c.media i) (row (not (same x (media_tag c.session (take l.mki b) i))) Forged ∷ []))

  abbrev m : ℕ
  m = c.session.settings.mki_len

  abbrev t : ℕ
  t = c.session.settings.profile.tag_len

  abbrev before : List ℕ
  before = media_portion c.session b

  pub media_setup : receiver_listed c ≡ false → media_verdict c b room ≡ Err Setup
  unfolding media_verdict
  media_setup h = rw h

  module _ (listed : receiver_listed c ≡ true) (four : length c.session.settings.mki ≡ 4) where
    mki : length (mki_bytes c.session) ≡ m
    mki = mki-length c.session (receiver_lengths c (receiver_listed c) refl listed).mki four

    length-is : length before ≡ length b - (m + t)
    length-is = portion-length (length (mki_bytes c.session)) t b ∙ ap (λ (n : ℕ). length b - (n + t)) mki

    pub media_long : 2048 + m + t < length b → media_verdict c b room ≡ Err Long
    unfolding media_verdict
    media_long h =
        let long : 2048 < length before = omega (arith, length-is) in
        rw (listed, lt-ltb 2048 (length before) long)

    pub media_rest : length b ≤ 2048 + m + t → (r : Option SrtpLayout) → r ≡ srtp_layout_of m t b → media_verdict c b room ≡ media_read r
    unfolding media_verdict mki_bytes address_verdict placed_media
    media_rest h None e =
        let short = le-ltb 2048 (length before) (omega (arith, length-is)) in
        let f : is_rtp before ≡ false = rw mki (srtp-unread m t b e refl) in
        rw (listed, short, f)
    media_rest h (Some l) e =
        let short = le-ltb 2048 (length before) (omega (arith, length-is)) in
        let w = srtp-read e refl in
        let rtp : is_rtp before ≡ true = rw mki w.head.rtp in
        let size : header_length before ≡ l.header.len = rw mki (sym w.head.size) in
        let number : sequence_number before ≡ l.header.sequence_number = rw mki (sym w.head.number) in
        let ssrc : rtp_ssrc before ≡ l.header.ssrc = rw mki (sym w.head.ssrc) in
        let mkis : mki_of (length (mki_bytes c.session)) t b ≡ take (l.tag - l.mki) (drop l.mki b) = rw mki w.trailer.mki-part in
        let portion : before ≡ take l.mki b = rw mki w.trailer.portion-part in
        let len : length before ≡ l.mki = omega (arith, length-is, w.trailer.mki, w.trailer.tag) in
        let address : List Row = address_rows c.session.settings l.header.ssrc l.mki room (take (l.tag - l.mki) (drop l.mki b)) in
        let k : ℤ = media_place c l.header.sequence_number (drop l.tag b) in
        rw (listed, short, rtp, size, number, ssrc, len, mkis, w.trailer.tag-part, portion, to_end)
        (judged-append (record { header_len = l.header.len; len = l.mki; index = natural k }) address (index_rows l (drop l.tag b) k)
        ∙ ap (and_then (judged_as tt (judged address))) (by_place l (drop l.tag b) k))

pub ruleset media_steps = (receiver_lengths, media_long, media_places, length-take, length-drop)
