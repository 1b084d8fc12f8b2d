-- What is known where a sender's rows pass, and what the call does by its verdict. Assumes nothing.
use mathlib.Core.List.{List}
use mathlib.Core.Path.{◌≡◌, refl}
use Prim.Native.Nat.{ℕ, ◌+◌, ◌^◌, ◌≤◌, ◌<◌}
use native.Mathlib.Omega.{arith}
use borrow.Author.Tests.{ltb-false, leb-false, not-false}
use lib.ListN.{length}
use Rattle.std.specs.Prelude.{true, Result, Ok, Err, is_ok}
use Rattle.replay.specs.Index.{max_media_index, max_control_packets, next_index, media_after, control_after}
use Rattle.rtp.proofs.RtcpLaws.{rtcp-least}
use Rattle.rtp.proofs.RtpLaws.{rtp-fits}
use Rattle.rtp.specs.Rtcp.{is_rtcp}
use Rattle.rtp.specs.Rtp.{is_rtp, header_length, sequence_number}
use Rattle.srtp.specs.Calls.{send_media_rows, media_sent, send_media, send_control_rows, control_sent, send_control}
use Rattle.srtp.specs.Contexts.{sender_listed}
use Rattle.srtp.specs.Outcomes.{Outcome, refused, settled}
use Rattle.session.specs.Packets.{mki_bytes, tag_length}
use Rattle.srtp.specs.Refusals.{Judgement, passes, stops, judged}
use Rattle.srtp.specs.SenderSteps.{media_as, media_verdict, control_as, control_verdict}
use Rattle.srtp.specs.declared.Refusal.{Refusal}
use Rattle.srtp.specs.declared.Sender.{Sender}
use Rattle.srtp.specs.declared.sending.ControlProtection.{ControlProtection}
use Rattle.srtp.specs.declared.sending.MediaProtection.{MediaProtection}
use Rattle.srtp.proofs.RowLaws.{none-holds, told-found}
use Rattle.srtp.proofs.ListedLaws.{sender_lengths}
use Rattle.session.proofs.SessionLaws.{Listed, mki-length}

-- ---- media
abbrev media_by : Sender → (packet : List ℕ) → Result MediaProtection Refusal → Outcome Sender
media_by c p (Ok v) = media_sent c p v.index
media_by c p (Err n) = refused n

pub send_media_by : (c : Sender) (p : List ℕ) (room : ℕ) → send_media c p room ≡ media_by c p (media_verdict c p room)
unfolding send_media media_verdict
send_media_by c p room = go (judged (send_media_rows c p room))
  where
    go : (j : Judgement) → settled j (media_sent c p (next_index c.media.last (sequence_number p)))
        ≡ media_by c p (media_as (header_length p) (next_index c.media.last (sequence_number p)) j)
    go passes = refl
    go (stops n) = refl

pub record MediaReady (c : Sender) (p : List ℕ) (room : ℕ) : Type 0 where
  pub told :
      media_verdict c p room
      ≡ Ok (record {
        header_len = header_length p;
        index = next_index c.media.last (sequence_number p);
        after = media_after (next_index c.media.last (sequence_number p));
      })
  pub fits : header_length p ≤ length p
  pub bound : next_index c.media.last (sequence_number p) < 2 ^ 48
  pub short : length p ≤ 2048
  pub lengths : Listed c.session.settings
  pub enough : length p + c.session.settings.mki_len + c.session.settings.profile.tag_len ≤ room

pub media_ready : (c : Sender) (p : List ℕ) (room : ℕ) → is_ok (media_verdict c p room) ≡ true → length c.session.settings.mki ≡ 4 → MediaReady c p room
unfolding media_verdict
media_ready c p room e four =
    let t = told-found _ (judged (send_media_rows c p room)) e in
    let w = none-holds (send_media_rows c p room) t in
    let listed = sender_lengths c (sender_listed c) refl (not-false (sender_listed c) w.0) in
    let whole : length p + length (mki_bytes c.session) + tag_length c.session ≤ room = ltb-false _ _ w.1.1.1.1.0 in
    let size = mki-length c.session listed.mki four in
    record {
      told = rw t refl;
      fits = rtp-fits p (not-false (is_rtp p) w.1.1.0);
      bound = omega (arith, ltb-false max_media_index _ w.1.1.1.1.1.1.0);
      short = ltb-false 2048 (length p) w.1.0;
      lengths = listed;
      enough = rw (← size) whole;
    }

pub ruleset media_calls = (send_media_by, media_ready)

-- ---- control
abbrev control_by : Sender → (packet : List ℕ) → Result ControlProtection Refusal → Outcome Sender
control_by c p (Ok v) = control_sent c p v.index
control_by c p (Err n) = refused n

pub send_control_by : (c : Sender) (p : List ℕ) (room : ℕ) → send_control c p room ≡ control_by c p (control_verdict c p room)
unfolding send_control control_verdict
send_control_by c p room = go (judged (send_control_rows c p room))
  where
    go : (j : Judgement) → settled j (control_sent c p c.control.sent) ≡ control_by c p (control_as c.control j)
    go passes = refl
    go (stops n) = refl

pub record ControlReady (c : Sender) (p : List ℕ) (room : ℕ) : Type 0 where
  pub told : control_verdict c p room ≡ Ok (record { index = c.control.sent; after = control_after c.control })
  pub least : 8 ≤ length p
  pub bound : c.control.sent < 2 ^ 31
  pub short : length p ≤ 2048
  pub lengths : Listed c.session.settings
  pub enough : length p + 4 + c.session.settings.mki_len + 10 ≤ room

pub control_ready : (c : Sender) (p : List ℕ) (room : ℕ) → is_ok (control_verdict c p room) ≡ true → length c.session.settings.mki ≡ 4 → ControlReady c p room
unfolding control_verdict
control_ready c p room e four =
    let t = told-found _ (judged (send_control_rows c p room)) e in
    let w = none-holds (send_control_rows c p room) t in
    let listed = sender_lengths c (sender_listed c) refl (not-false (sender_listed c) w.0) in
    let whole : length p + 4 + length (mki_bytes c.session) + 10 ≤ room = ltb-false _ _ w.1.1.1.1.0 in
    let size = mki-length c.session listed.mki four in
    record {
      told = rw t refl;
      least = rtcp-least p (not-false (is_rtcp p) w.1.1.0);
      bound = leb-false max_control_packets c.control.sent w.1.1.1.1.1.0;
      short = ltb-false 2048 (length p) w.1.0;
      lengths = listed;
      enough = rw (← size) whole;
    }

pub ruleset control_calls = (send_control_by, control_ready)
