-- What is known where a receiver's rows pass, and what the call does by its verdict. Assumes nothing.
use mathlib.Core.Bool.{Bool, true, false}
use mathlib.Core.List.{List}
use mathlib.Core.Path.{◌≡◌, refl, sym}
use Prim.Native.Nat.{ℕ, ◌^◌, ◌≤◌, ◌<◌}
use native.Mathlib.Omega.{arith}
use borrow.Author.Tests.{ltb-false, not-false}
use lib.IntN.{ℤ, pos, negsuc}
use lib.ListN.{length, take}
use Rattle.std.specs.Prelude.{Result, Ok, Err, is_ok}
use Rattle.replay.specs.Index.{max_media_index}
use Rattle.rtp.proofs.IndexWordLaws.{before-word-length, index-most}
use Rattle.rtp.proofs.RtcpLaws.{rtcp-least}
use Rattle.rtp.proofs.RtpLaws.{rtp-fits}
use Rattle.rtp.proofs.TrailerLaws.{portion-length}
use Rattle.rtp.specs.Protected.{rtcp_portion, word_of, e_flag}
use Rattle.rtp.specs.Rtcp.{is_rtcp}
use Rattle.rtp.specs.Rtp.{is_rtp, header_length}
use Rattle.session.specs.Packets.{control_tag_length, mki_bytes, tag_length}
use Rattle.session.proofs.SessionLaws.{length-ciphered_media, length-ciphered_control}
use Rattle.srtp.specs.Calls.{too_high, natural, media_portion, media_index, receive_media_rows, media_opened, receive_media, control_received, control_index, receive_control_rows, control_opened, receive_control}
use Rattle.srtp.specs.Outcomes.{Outcome, refused, settled}
use Rattle.srtp.specs.ReceiverSteps.{media_as, control_as, media_verdict, control_verdict}
use Rattle.srtp.specs.Refusals.{Judgement, passes, stops, judged}
use Rattle.srtp.specs.declared.Receiver.{Receiver}
use Rattle.srtp.specs.declared.Refusal.{Refusal}
use Rattle.srtp.specs.declared.receiving.ControlOpening.{ControlOpening}
use Rattle.srtp.specs.declared.receiving.MediaOpening.{MediaOpening}
use Rattle.srtp.proofs.ReceiverLaws.{portion-take, rtcp-take}
use Rattle.srtp.proofs.RowLaws.{none-holds, told-found}

-- ---- media
not-high : (x : ℤ) → too_high x ≡ false → natural x < 2 ^ 48
not-high (pos i) h = omega (arith, ltb-false max_media_index i h)
not-high (negsuc j) h = omega arith

abbrev media_by : Receiver → (packet : List ℕ) → Result MediaOpening Refusal → Outcome Receiver
media_by c b (Ok v) = media_opened c b v.index
media_by c b (Err n) = refused n

module _ (c : Receiver) (b : List ℕ) (room : ℕ) where
  abbrev media_before : List ℕ
  media_before = media_portion c.session b

  abbrev media_at : ℕ
  media_at = natural (media_index c b)

  pub receive_media_by : receive_media c b room ≡ media_by c b (media_verdict c b room)
  unfolding receive_media media_verdict
  receive_media_by = go (judged (receive_media_rows c b room (media_index c b)))
    where
      go : (j : Judgement) → settled j (media_opened c b media_at) ≡ media_by c b (media_as (header_length media_before) (length media_before) media_at j)
      go passes = refl
      go (stops n) = refl

pub record MediaOpens (c : Receiver) (b : List ℕ) (room : ℕ) : Type 0 where
  pub told :
      media_verdict c b room ≡ Ok (record { header_len = header_length (media_before c b room); len = length (media_before c b room); index = media_at c b room })
  pub part : take (length (media_before c b room)) b ≡ media_before c b room
  pub within : length (media_before c b room) ≤ length b
  pub fits : header_length (media_before c b room) ≤ length (media_before c b room)
  pub bound : media_at c b room < 2 ^ 48
  pub short : length (media_before c b room) ≤ 2048
  pub enough : length (media_before c b room) ≤ room

pub media_opens : (c : Receiver) (b : List ℕ) (room : ℕ) → is_ok (media_verdict c b room) ≡ true → MediaOpens c b room
unfolding media_verdict
media_opens c b room e =
    let a : List ℕ = media_portion c.session b in
    let rows = receive_media_rows c b room (media_index c b) in
    let t = told-found _ (judged rows) e in
    let w = none-holds rows t in
    record {
      told = rw t refl;
      part = sym (portion-take (length (mki_bytes c.session)) (tag_length c.session) b (length a) refl);
      within = omega (arith, portion-length (length (mki_bytes c.session)) (tag_length c.session) b);
      fits = rtp-fits a (not-false (is_rtp a) w.1.1.0);
      bound = not-high (media_index c b) w.1.1.1.1.1.1.0;
      short = ltb-false 2048 (length a) w.1.0;
      enough = ltb-false room (length a) w.1.1.1.1.0;
    }

pub ruleset media_calls = (receive_media_by, media_opens, length-ciphered_media)

-- ---- control
abbrev control_by : Receiver → (packet : List ℕ) → Result ControlOpening Refusal → Outcome Receiver
control_by c b (Ok v) = control_opened c b v.index
control_by c b (Err n) = refused n

module _ (c : Receiver) (b : List ℕ) (room : ℕ) where
  abbrev control_before : List ℕ
  control_before = rtcp_portion (control_received c.session b)

  abbrev control_flag : Bool
  control_flag = e_flag (word_of (control_received c.session b))

  abbrev control_at : ℕ
  control_at = control_index c.session b

  pub receive_control_by : receive_control c b room ≡ control_by c b (control_verdict c b room)
  unfolding receive_control control_verdict
  receive_control_by = go (judged (receive_control_rows c b room control_at))
    where
      go : (j : Judgement) → settled j (control_opened c b control_at) ≡ control_by c b (control_as (length control_before) control_flag control_at j)
      go passes = refl
      go (stops n) = refl

pub record ControlOpens (c : Receiver) (b : List ℕ) (room : ℕ) : Type 0 where
  pub told :
      control_verdict c b room ≡ Ok (record { len = length (control_before c b room); encrypted = control_flag c b room; index = control_at c b room })
  pub part : take (length (control_before c b room)) b ≡ control_before c b room
  pub within : length (control_before c b room) ≤ length b
  pub least : 8 ≤ length (control_before c b room)
  pub bound : control_at c b room < 2 ^ 48
  pub short : length (control_before c b room) ≤ 2048
  pub enough : length (control_before c b room) ≤ room

pub control_opens : (c : Receiver) (b : List ℕ) (room : ℕ) → is_ok (control_verdict c b room) ≡ true → ControlOpens c b room
unfolding control_verdict
control_opens c b room e =
    let p : List ℕ = control_before c b room in
    let rows = receive_control_rows c b room (control_index c.session b) in
    let t = told-found _ (judged rows) e in
    let w = none-holds rows t in
    record {
      told = rw t refl;
      part = sym (rtcp-take (length (mki_bytes c.session)) control_tag_length b (length p) refl);
      within = omega (arith, portion-length (length (mki_bytes c.session)) control_tag_length b, before-word-length (control_received c.session b));
      least = rtcp-least p (not-false (is_rtcp p) w.1.1.0);
      bound = omega (arith, index-most (word_of (control_received c.session b)));
      short = ltb-false 2048 (length p) w.1.0;
      enough = ltb-false room (length p) w.1.1.1.1.0;
    }

pub ruleset control_calls = (receive_control_by, control_opens, length-ciphered_control)
