-- What a sending call that finishes a packet has tested, and what it leaves. Assumes nothing.
use Prim.Native.Nat.{ℕ, ◌+◌, ◌%◌, ◌≤◌, ◌<◌}
use native.Mathlib.Omega.{arith}
use mathlib.Core.Path.{◌≡◌, refl, sym, ap, ◌∙◌}
use mathlib.Core.Bool.{true, false, ◌&&◌}
use mathlib.Core.List.{List}
use lib.Dec.{leb}
use lib.ListN.{length}
use borrow.Author.Tests.{ltb-false, leb-false, not-false, eqb-true}
use Rattle.std.specs.Prelude.{Option, None, Some}
use Rattle.std.proofs.lemmas.Bool.{and_parts}
use Rattle.octets.specs.BigEndian.{Bytes}
use Rattle.rtp.specs.Rtp.{sequence_number}
use Rattle.rtp.proofs.RtpLaws.{number_lt}
use Rattle.replay.specs.Index.{max_media_index, max_control_packets, next_index, out_of_order, media_after}
use Rattle.replay.proofs.IndexLaws.{sent-number, sent-rises, sent-near}
use Rattle.srtp.specs.declared.Sender.{Sender}
use Rattle.srtp.specs.Outcomes.{Outcome, done, next_of}
use Rattle.session.specs.Packets.{control_tag_length, cipher_of, ssrc_of, tag_length, mki_bytes, srtp, srtcp, encrypts}
use Rattle.session.specs.SetUps.{settings_listed}
use Rattle.srtp.specs.Contexts.{sender_listed, last_at_most}
use Rattle.srtp.specs.Calls.{max_packet_length, send_media_rows, media_sent, send_media, send_control_rows, control_sent, send_control}
use Rattle.demands.specs.Runs.{Kind, media, control, send}
use Rattle.demands.specs.Words.{is_packet, packet_ssrc, HasIndex}
use Rattle.demands.proofs.RowLaws.{NoneHolds, none, ◌also◌, rows-done}
use Rattle.demands.proofs.MediaLaws.{length-srtp}
use Rattle.demands.proofs.ControlLaws.{length-srtcp}
use Rattle.demands.proofs.PacketKinds.{sent_as}

-- the first media index is the packet's number, a later one is past the last by less than 32,768
abbrev pub Past : Option ℕ → (number index : ℕ) → Type 0
Past None q i = q ≡ i
Past (Some l) q i = (l < i) × (i < l + 32768)

-- it becomes the last one; sending control leaves that as it is
abbrev pub Turns : Kind → Sender → (packet : List ℕ) → (index : ℕ) → Sender → Type 0
Turns media s p i s' = Past s.media.last (sequence_number p) i × (s'.media ≡ media_after i)
Turns control s p i s' = s'.media ≡ s.media

-- the call on s finishes b of the packet p at i, and leaves s'
pub record Sends (k : Kind) (s : Sender) (p : List ℕ) (room : ℕ) (b : List ℕ) (i : ℕ) (s' : Sender) : Type 0 where
  pub settings : settings_listed s.session.settings ≡ true
  pub not_long : length p ≤ max_packet_length
  pub shape : is_packet k p ≡ true
  pub stream : packet_ssrc k p ≡ ssrc_of s.session
  pub has_index : Bytes p → HasIndex k p i
  pub bytes : b ≡ sent_as k s.session p i
  pub fits : length b ≤ room
  pub turns : Turns k s p i s'
  pub session-kept : s'.session ≡ s.session

sender-settings : (s : Sender) → sender_listed s ≡ true → settings_listed s.session.settings ≡ true
unfolding sender_listed
sender-settings s g =
    (and_parts (settings_listed s.session.settings) (last_at_most max_media_index s.media.last && leb s.control.sent max_control_packets) g).0

next_past : (l : Option ℕ) (q i : ℕ) → next_index l q ≡ i → out_of_order l q ≡ false → Past l q i
next_past None q i e o = e
next_past (Some l) q i e o = (rw e at (sent-rises l q o), rw e at (sent-near l q o))

media-sends : (s : Sender) (p : List ℕ) (room : ℕ) (b : List ℕ) (k i : ℕ) (s' : Sender) →
    next_index s.media.last (sequence_number p) ≡ k → NoneHolds (send_media_rows s p room) → media_sent s p k ≡ done b i s' →
    Sends media s p room b i s'
media-sends s p room b k i s' n (setup also long also shape also stream also short also order also spent also none) e =
    let e₁ : k ≡ i = cc in
    let e₂ : b ≡ srtp s.session p i = cc in
    let g = sender-settings s (not-false _ setup) in
    let r = not-false _ shape in
    let l = ltb-false room (length p + length (mki_bytes s.session) + tag_length s.session) short in
    let m : next_index s.media.last (sequence_number p) ≤ max_media_index = ltb-false _ _ spent in
    record {
      settings = g;
      not_long = ltb-false _ _ long;
      shape = r;
      stream = eqb-true _ _ (not-false _ stream);
      has_index = λ q.
          (sent-number s.media.last (sequence_number p) (number_lt p q) ∙ ap (λ (j : ℕ). j % 65536) (n ∙ e₁), rw (n, e₁) at m);
      bytes = e₂;
      fits = omega (arith, ap length e₂, length-srtp s.session p i g r, l);
      turns = (
        next_past s.media.last (sequence_number p) i (n ∙ e₁) order,
        sym (ap (λ (o : Outcome Sender). (next_of o s).media) e) ∙ ap media_after e₁,
      );
      session-kept = sym (ap (λ (o : Outcome Sender). (next_of o s).session) e);
    }

control-sends : (s : Sender) (p : List ℕ) (room : ℕ) (b : List ℕ) (i : ℕ) (s' : Sender) →
    NoneHolds (send_control_rows s p room) → control_sent s p s.control.sent ≡ done b i s' → Sends control s p room b i s'
control-sends s p room b i s' (setup also long also shape also stream also short also spent also none) e =
    let x = encrypts (cipher_of s.session) in
    let e₁ : s.control.sent ≡ i = cc in
    let e₂ : b ≡ srtcp s.session x p i = cc in
    let r = not-false _ shape in
    let l = ltb-false room (length p + 4 + length (mki_bytes s.session) + control_tag_length) short in
    let m : s.control.sent < max_control_packets = leb-false _ _ spent in
    record {
      settings = sender-settings s (not-false _ setup);
      not_long = ltb-false _ _ long;
      shape = r;
      stream = eqb-true _ _ (not-false _ stream);
      has_index = λ q. omega (arith, m, e₁);
      bytes = e₂;
      fits = omega (arith, ap length e₂, length-srtcp s.session x p i r, l);
      turns = sym (ap (λ (o : Outcome Sender). (next_of o s).media) e);
      session-kept = sym (ap (λ (o : Outcome Sender). (next_of o s).session) e);
    }

pub sends : (k : Kind) (s : Sender) (p : List ℕ) (room : ℕ) (b : List ℕ) (i : ℕ) (s' : Sender) → send k s p room ≡ done b i s' →
    Sends k s p room b i s'
unfolding send_media send_control
sends media s p room b i s' e =
    let k = next_index s.media.last (sequence_number p) in
    let d = rows-done (send_media_rows s p room) (media_sent s p k) b i s' e in
    media-sends s p room b k i s' refl d.0 d.1
sends control s p room b i s' e =
    let d = rows-done (send_control_rows s p room) (control_sent s p s.control.sent) b i s' e in
    control-sends s p room b i s' d.0 d.1
