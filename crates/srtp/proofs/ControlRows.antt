-- The rows of receiving control by the steps of the code, and what is known where none holds. Assumes nothing.
use mathlib.Core.Bool.{true, false, not}
use mathlib.Core.List.{List, [], ◌∷◌, ◌++◌}
use mathlib.Core.Path.{◌≡◌, refl, sym, ap, ◌∙◌}
use Prim.Native.Nat.{ℕ, ◌+◌, ◌-◌, ◌≤◌, ◌<◌}
use native.Mathlib.Omega.{arith}
use borrow.Author.Tests.{lt-ltb, le-ltb}
use lib.ListN.{length, take, drop, length-take}
use Rattle.std.specs.Prelude.{Option, None, Some, Result, Err, is_some}
use Rattle.octets.specs.Equal.{same}
use Rattle.rtp.proofs.IndexWordLaws.{before-word-length}
use Rattle.rtp.proofs.RtcpLaws.{rtcp-least}
use Rattle.rtp.proofs.SrtcpLaws.{srtcp-read, srtcp-unread}
use Rattle.rtp.proofs.TrailerLaws.{portion-length}
use Rattle.rtp.specs.Protected.{authenticated_portion, mki_of, rtcp_portion, word_of, e_flag, srtcp_index, srtcp_layout_of}
use Rattle.rtp.specs.Rtcp.{is_rtcp, rtcp_ssrc}
use Rattle.rtp.specs.declared.SrtcpLayout.{SrtcpLayout}
use Rattle.session.specs.Packets.{mki_bytes, control_tag}
use Rattle.session.proofs.SessionLaws.{mki-length}
use Rattle.srtp.specs.Calls.{control_received}
use Rattle.srtp.specs.Contexts.{receiver_listed}
use Rattle.srtp.specs.ReceiverSteps.{address_rows, replay_rows, address_verdict, replay_verdict, control_verdict}
use Rattle.srtp.specs.Refusals.{Row, row, judged, judged_as}
use Rattle.srtp.specs.declared.Receiver.{Receiver}
use Rattle.srtp.specs.declared.Refusal.{Refusal}
use Rattle.srtp.specs.declared.Refusal.TheVariants.{Setup, Long, Shape, Forged}
use Rattle.srtp.specs.declared.receiving.ControlOpening.{ControlOpening}
use Rattle.srtp.proofs.ListedLaws.{receiver_lengths}
use Rattle.srtp.proofs.ReceiverLaws.{some_where, and_then, judged-append, to_end}

-- ---- where index word, MKI and tag of a packet lie that was read
abbrev control_layout : (m t : ℕ) → List ℕ → SrtcpLayout
control_layout m t b =
    let a = authenticated_portion m t b in
    record {
      header = record { ssrc = rtcp_ssrc (rtcp_portion a) };
      encrypted = e_flag (word_of a);
      index = srtcp_index (word_of a);
      word = length b - (m + t) - 4;
      mki = length b - (m + t);
      tag = length b - t;
    }

pub record ControlPlaces (m t : ℕ) (b : List ℕ) : Type 0 where
  pub told : srtcp_layout_of m t b ≡ Some (control_layout m t b)
  pub fits : 8 + 4 + m + t ≤ length b

pub control_places : (m t : ℕ) (b : List ℕ) → is_some (srtcp_layout_of m t b) ≡ true → ControlPlaces m t b
unfolding srtcp_layout_of
control_places m t b h =
    let a : List ℕ = authenticated_portion m t b in
    let e : is_rtcp (rtcp_portion a) ≡ true = some_where (is_rtcp (rtcp_portion a)) _ h in
    let n = rtcp-least (rtcp_portion a) e in
    let l : length a ≡ length b - (m + t) = portion-length m t b in
    record { told = rw (e, l) refl; fits = omega (arith, n, l, before-word-length a) }

-- ---- all rows, by the steps
module _ (c : Receiver) (b : List ℕ) (room : ℕ) where
  -- OLD, REPEAT and FORGED behind the address
  abbrev control_at : SrtcpLayout → Result ControlOpening Refusal
  control_at l =
      and_then (replay_verdict c.control l.index)
      (judged_as (record { len = l.word; encrypted = l.encrypted; index = l.index })
      (judged (row (not (same (take (length b - l.tag) (drop l.tag b)) (control_tag c.session (take l.mki b)))) Forged ∷ [])))

  abbrev control_read : Option SrtcpLayout → Result ControlOpening Refusal
  control_read None = Err Shape
  control_read (Some l) =
      and_then (address_verdict c.session.settings l.header.ssrc l.word room (take (l.tag - l.mki) (drop l.mki b)))
      (control_at l)

  abbrev most : ℕ
  most = 2048 + 4 + c.session.settings.mki_len + 10

  abbrev before : List ℕ
  before = control_received c.session b

  pub control_setup : receiver_listed c ≡ false → control_verdict c b room ≡ Err Setup
  unfolding control_verdict
  control_setup h = rw h

  module _ (listed : receiver_listed c ≡ true) (four : length c.session.settings.mki ≡ 4) where
    mki : length (mki_bytes c.session) ≡ c.session.settings.mki_len
    mki = mki-length c.session (receiver_lengths c (receiver_listed c) refl listed).mki four

    length-is : length (rtcp_portion before) ≡ length b - (c.session.settings.mki_len + 10) - 4
    length-is =
        before-word-length before
        ∙ ap (λ (n : ℕ). n - 4) (portion-length (length (mki_bytes c.session)) 10 b ∙ ap (λ (m : ℕ). length b - (m + 10)) mki)

    pub control_long : most < length b → control_verdict c b room ≡ Err Long
    unfolding control_verdict
    control_long h =
        let long : 2048 < length (rtcp_portion before) = omega (arith, length-is) in
        rw (listed, lt-ltb 2048 (length (rtcp_portion before)) long)

    pub control_rest : length b ≤ most → (r : Option SrtcpLayout) → r ≡ srtcp_layout_of c.session.settings.mki_len 10 b → control_verdict c b room ≡ control_read r
    unfolding control_verdict mki_bytes address_verdict replay_verdict
    control_rest h None e =
        let short = le-ltb 2048 (length (rtcp_portion before)) (omega (arith, length-is)) in
        let f : is_rtcp (rtcp_portion before) ≡ false = rw mki (srtcp-unread c.session.settings.mki_len 10 b e refl) in
        rw (listed, short, f)
    control_rest h (Some l) e =
        let short = le-ltb 2048 (length (rtcp_portion before)) (omega (arith, length-is)) in
        let w = srtcp-read e refl in
        let rtcp : is_rtcp (rtcp_portion before) ≡ true = rw mki w.head.rtcp in
        let ssrc : rtcp_ssrc (rtcp_portion before) ≡ l.header.ssrc = rw mki (sym w.head.ssrc) in
        let flag : e_flag (word_of before) ≡ l.encrypted = rw mki (sym w.flag) in
        let index : srtcp_index (word_of before) ≡ l.index = rw mki (sym w.index) in
        let mkis : mki_of (length (mki_bytes c.session)) 10 b ≡ take (l.tag - l.mki) (drop l.mki b) = rw mki w.trailer.mki-part in
        let portion : before ≡ take l.mki b = rw mki w.trailer.portion-part in
        let len : length (rtcp_portion before) ≡ l.word = omega (arith, length-is, w.word, w.trailer.mki, w.trailer.tag) in
        let v : ControlOpening = record { len = l.word; encrypted = l.encrypted; index = l.index } in
        let address : List Row = address_rows c.session.settings l.header.ssrc l.word room (take (l.tag - l.mki) (drop l.mki b)) in
        let replay : List Row = replay_rows c.control l.index in
        let forged : List Row = row (not (same (drop l.tag b) (control_tag c.session (take l.mki b)))) Forged ∷ [] in
        rw (listed, short, rtcp, ssrc, flag, index, len, mkis, w.trailer.tag-part, portion, to_end)
        (judged-append v address (replay ++ forged) ∙ ap (and_then (judged_as tt (judged address))) (judged-append v replay forged))

pub ruleset control_steps = (receiver_lengths, control_long, control_places, length-take)
