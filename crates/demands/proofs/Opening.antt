-- What is made under a receiver's session, where its window does not take the index for old and the buffer has room: a repeat is refused as
-- REPEAT; what is new is accepted, and the packet comes out. Assumes nothing.
use Prim.Native.Nat.{ℕ}
use native.Mathlib.Omega.{arith}
use mathlib.Core.Path.{◌≡◌, refl, ap, ◌∙◌}
use mathlib.Core.Bool.{Bool, true, false, cond, not}
use mathlib.Core.List.{List}
use lib.Dec.{eqb, ltb}
use lib.IntN.{pos}
use lib.ListN.{length}
use borrow.Author.Tests.{le-ltb, eq-eqb}
use Rattle.std.specs.Prelude.{Result, Ok, Err}
use Rattle.octets.specs.Equal.{same}
use Rattle.octets.proofs.EqualLaws.{same_refl}
use Rattle.rtp.specs.Rtp.{is_rtp, sequence_number, rtp_ssrc}
use Rattle.rtp.specs.Rtcp.{is_rtcp, rtcp_ssrc}
use Rattle.rtp.specs.Protected.{mki_of, tag_of, rtcp_portion, word_of, index_word}
use Rattle.rtp.proofs.IndexWordLaws.{word-flag, word-index}
use Rattle.replay.specs.Index.{max_media_index}
use Rattle.replay.specs.Window.{window_length, window_verdict}
use Rattle.replay.specs.declared.window.Replayed.{Replayed}
use Rattle.replay.specs.declared.window.Replayed.TheVariants as replayed
use Rattle.session.specs.declared.Session.{Session}
use Rattle.srtp.specs.declared.Receiver.{Receiver}
use Rattle.srtp.specs.declared.Refusal.TheVariants as refusal
use Rattle.srtp.specs.Outcomes.{refused, done}
use Rattle.session.specs.Packets.{control_tag_length, cipher_of, ssrc_of, tag_length, mki_bytes, ciphered_media, media_tag, srtp, encrypts, ciphered_control, control_portion, control_tag, srtcp}
use Rattle.session.specs.SetUps.{settings_listed}
use Rattle.srtp.specs.Calls.{max_packet_length, is_old, is_repeat, media_portion, media_place, media_index, receive_media_rows, media_opened, receive_media, control_received, control_index, receive_control_rows, control_opened, receive_control}
use Rattle.demands.specs.Runs.{Kind, media, control, receive}
use Rattle.demands.proofs.RowLaws.{none, ◌also◌, this, ◌beside◌, rows-one}
use Rattle.demands.proofs.MediaLaws.{media-twice, media-length, media-rtp, media-number, media-ssrc, srtp-portion, srtp-mki, srtp-tag}
use Rattle.demands.proofs.ControlLaws.{control-twice, control-length, control-rtcp, control-ssrc, srtcp-portion, srtcp-mki, srtcp-tag, portion-text, portion-word}
use Rattle.demands.proofs.PacketKinds.{sent_as, window_of, marked, Admits}
use Rattle.demands.proofs.ReceiverRuns.{receiver-settings}

-- the index that the receiver finds is i: for media by number and tag; for control it is in the packet
abbrev pub Finds : Kind → Receiver → (packet : List ℕ) → (index : ℕ) → Type 0
Finds media r p i = media_place r (sequence_number p) (media_tag r.session (ciphered_media r.session p i) i) ≡ pos i
Finds control r p i = Unit {0}

-- the window's verdict on an index that is not old, and its rows
abbrev pub young_verdict : Bool → Result Unit Replayed
young_verdict seen = cond seen (Err replayed.Repeat) (Ok tt)

young : (seen : Bool) → is_old (young_verdict seen) ≡ false
young true = refl
young false = refl

repeated : (seen : Bool) → is_repeat (young_verdict seen) ≡ seen
repeated true = refl
repeated false = refl

module _ (r : Receiver) (p : List ℕ) (i room : ℕ) (seen : Bool) where
  opens-media : Admits media r p i room → Finds media r p i → window_verdict window_length r.media i ≡ young_verdict seen →
      receive_media r (srtp r.session p i) room ≡ cond seen (refused refusal.Repeat) (done p i (marked media r i))
  unfolding receive_media
  opens-media h f v =
      let s : Session = r.session in
      let c : List ℕ = ciphered_media s p i in
      let b : List ℕ = srtp s p i in
      let g : settings_listed s.settings ≡ true = receiver-settings r h.row1 in
      let a : media_portion s b ≡ c = srtp-portion s p i g in
      let index : media_index r b ≡ pos i = rw (a, media-number s i p h.shape, srtp-tag s p i g) f in
      let len : length c ≡ length p = media-length s i p h.shape in
      let setup = ap not h.row1 in
      let long : ltb max_packet_length (length (media_portion s b)) ≡ false =
      rw a (le-ltb max_packet_length (length c) (omega (arith, len, h.not_long))) in
      let shape : not (is_rtp (media_portion s b)) ≡ false = rw a (ap not (media-rtp s i p h.shape)) in
      let stream : not (eqb (rtp_ssrc (media_portion s b)) (ssrc_of s)) ≡ false =
      rw a (ap not (eq-eqb (rtp_ssrc c) (ssrc_of s) (media-ssrc s i p h.shape ∙ h.stream))) in
      let short : ltb room (length (media_portion s b)) ≡ false = rw a (le-ltb room (length c) (omega (arith, len, h.fits))) in
      let key : not (same (mki_of (length (mki_bytes s)) (tag_length s) b) (mki_bytes s)) ≡ false =
      rw (srtp-mki s p i g) (ap not (same_refl (mki_bytes s))) in
      let spent = le-ltb max_media_index i h.below in
      let forged : not (same (tag_of (tag_length s) b) (media_tag s (media_portion s b) i)) ≡ false =
      rw (a, srtp-tag s p i g) (ap not (same_refl (media_tag s c i))) in
      rw index
      (rows-one seen {rs = receive_media_rows r b room (pos i)} (media_opened r b i)
      (setup beside long beside shape beside stream beside short beside key beside spent beside ap is_old v ∙ young seen
      beside this (ap is_repeat v ∙ repeated seen) refl (forged also none))
      ∙ rw (a, media-twice s i p h.shape))

  opens-control : (e : Bool) → Admits control r p i room → window_verdict window_length r.control i ≡ young_verdict seen →
      receive_control r (srtcp r.session e p i) room ≡ cond seen (refused refusal.Repeat) (done p i (marked control r i))
  unfolding receive_control
  opens-control e h v =
      let s : Session = r.session in
      let f : List ℕ = control_portion s e p i in
      let c : List ℕ = ciphered_control s e p i in
      let b : List ℕ = srtcp s e p i in
      let a : control_received s b ≡ f = srtcp-portion s e p i in
      let t : rtcp_portion f ≡ c = portion-text s e p i in
      let w : word_of f ≡ index_word e i = portion-word s e p i in
      let index : control_index s b ≡ i = rw (a, w) (word-index e i h.below) in
      let len : length c ≡ length p = control-length s i e p h.shape in
      let setup = ap not h.row1 in
      let long : ltb max_packet_length (length (rtcp_portion (control_received s b))) ≡ false =
      rw (a, t) (le-ltb max_packet_length (length c) (omega (arith, len, h.not_long))) in
      let shape : not (is_rtcp (rtcp_portion (control_received s b))) ≡ false = rw (a, t) (ap not (control-rtcp s i e p h.shape)) in
      let stream : not (eqb (rtcp_ssrc (rtcp_portion (control_received s b))) (ssrc_of s)) ≡ false =
      rw (a, t) (ap not (eq-eqb (rtcp_ssrc c) (ssrc_of s) (control-ssrc s i e p h.shape ∙ h.stream))) in
      let short : ltb room (length (rtcp_portion (control_received s b))) ≡ false =
      rw (a, t) (le-ltb room (length c) (omega (arith, len, h.fits))) in
      let key : not (same (mki_of (length (mki_bytes s)) control_tag_length b) (mki_bytes s)) ≡ false =
      rw (srtcp-mki s e p i) (ap not (same_refl (mki_bytes s))) in
      let forged : not (same (tag_of control_tag_length b) (control_tag s (control_received s b))) ≡ false =
      rw (a, srtcp-tag s e p i) (ap not (same_refl (control_tag s f))) in
      rw index
      (rows-one seen {rs = receive_control_rows r b room i} (control_opened r b i)
      (setup beside long beside shape beside stream beside short beside key beside ap is_old v ∙ young seen
      beside this (ap is_repeat v ∙ repeated seen) refl (forged also none))
      ∙ rw (a, t, w, word-flag e i, control-twice s i e p h.shape))

pub opens : (k : Kind) (r : Receiver) (p : List ℕ) (i room : ℕ) (seen : Bool) → Admits k r p i room → Finds k r p i →
    window_verdict window_length (window_of k r) i ≡ young_verdict seen →
    receive k r (sent_as k r.session p i) room ≡ cond seen (refused refusal.Repeat) (done p i (marked k r i))
opens media r p i room seen h f v = opens-media r p i room seen h f v
opens control r p i room seen h f v = opens-control r p i room seen (encrypts (cipher_of r.session)) h v
