-- What an exported call stores is all that changes: the struct that it is lent, with these fields from the next struct, is the next struct.
-- Assumes nothing.
use Prim.Native.Nat.{ℕ, zero, suc, ◌≤◌}
use native.Mathlib.Omega.{arith}
use mathlib.Core.Bool.{Bool, true, false, ◌&&◌}
use mathlib.Core.List.{List}
use mathlib.Core.Path.{◌≡◌, refl, sym, subst}
use borrow.Author.Tests.{leb-true}
use lib.ListN.{length}
use Rattle.replay.specs.declared.index.MediaSender.{MediaSender}
use Rattle.replay.specs.declared.index.ControlSender.{ControlSender}
use Rattle.replay.specs.declared.window.Window as core-window
use Rattle.srtp.specs.declared.Refusal.TheVariants.{Setup}
use Rattle.srtp.specs.Refusals.{Judgement, passes, stops, judged}
use Rattle.srtp.specs.Outcomes.{Outcome, refused, settled}
use Rattle.srtp.specs.Calls.{send_media, send_control, send_media_rows, send_control_rows, media_sent, control_sent}
use Rattle.srtp.specs.Calls.{receive_media, receive_control, receive_media_rows, receive_control_rows, media_index, control_index, media_opened, control_opened}
use Rattle.srtp_c.specs.declared.Profile.{Profile}
use Rattle.srtp_c.specs.declared.Session.{Session}
use Rattle.srtp_c.specs.declared.Sender.{Sender}
use Rattle.srtp_c.specs.declared.Window.{Window}
use Rattle.srtp_c.specs.declared.Receiver.{Receiver}
use Rattle.srtp_c.specs.declared.After.{After}
use Rattle.srtp_c.specs.Plain.{two_cased, cipher_of, cipher_number, integrity_of, integrity_number, marked, mark_of}
use Rattle.srtp_c.specs.Plain.{profile_named, sender_named, sender_of, plain_sender, receiver_named, receiver_of, plain_receiver}
use Rattle.srtp_c.specs.Boundary.{plain_next, SendsMedia, SendsControl, ReceivesMedia, ReceivesControl}
use Rattle.srtp_c.proofs.PlainLaws.{unnamed-send-media, unnamed-send-control, unnamed-receive-media, unnamed-receive-control}

-- ---- a struct c with the stores from n
-- the rate is stored because a context has none under HMAC-SHA1, whatever the struct holds
abbrev rate_stored : (s t : Session) → Session
rate_stored s t =
    record {
      profile =
          record {
            cipher = s.profile.cipher;
            integrity = s.profile.integrity;
            rate = t.profile.rate;
            tag_len = s.profile.tag_len;
          };
      ssrc = s.ssrc;
      mki = s.mki;
      mki_len = s.mki_len;
      media = s.media;
      control = s.control;
    }

-- and so a window with no highest index
abbrev highest_stored : (w v : Window) → Window
highest_stored w v = record { has_highest = w.has_highest; highest = v.highest; words = w.words }

abbrev pub sender_stored : (c n : Sender) → Sender
sender_stored c n =
    record {
      session = rate_stored c.session n.session;
      has_last = n.has_last;
      last_index = n.last_index;
      control_sent = n.control_sent;
    }

abbrev pub media_stored : (c n : Receiver) → Receiver
media_stored c n =
    record {
      session = rate_stored c.session n.session;
      rollover = c.rollover;
      media = n.media;
      control = highest_stored c.control n.control;
    }

abbrev pub control_stored : (c n : Receiver) → Receiver
control_stored c n =
    record {
      session = rate_stored c.session n.session;
      rollover = c.rollover;
      media = highest_stored c.media n.media;
      control = n.control;
    }

-- ---- numbers of enums
both : (a b : Bool) → (a && b) ≡ true → (a ≡ true) × (b ≡ true)
both true b e = (refl, e)
both false b e = (e, cc)

-- a number that an enum has comes back from its case
zero-or-one : (P : ℕ → Type 0) → P 0 → P 1 → (n : ℕ) → two_cased n ≡ true → P n
zero-or-one P z o zero e = z
zero-or-one P z o (suc zero) e = o
zero-or-one P z o (suc (suc n)) e =
    let l : suc (suc n) ≤ 1 = leb-true _ _ e in
    let no : ⊥ = omega (arith, l) in
    absurd no

profile-kept : (q : Profile) → profile_named q ≡ true
    → (cipher_number (cipher_of q.cipher) ≡ q.cipher) × (integrity_number (integrity_of q.integrity q.rate) ≡ q.integrity)
profile-kept q e =
    let named = both (two_cased q.cipher) (two_cased q.integrity) e in (
      zero-or-one (λ (n : ℕ). cipher_number (cipher_of n) ≡ n) refl refl q.cipher named.0,
      zero-or-one (λ (n : ℕ). integrity_number (integrity_of n q.rate) ≡ n) refl refl q.integrity named.1,
    )

highest-kept : (w : Window) → two_cased w.has_highest ≡ true → mark_of (marked w.has_highest w.highest) ≡ w.has_highest
highest-kept w = zero-or-one (λ (n : ℕ). mark_of (marked n w.highest) ≡ n) refl refl w.has_highest

-- ---- the next context of `srtp` has the old session, and what is not of the packet's kind
sender-left : (c : Sender) → sender_named c ≡ true → (m : MediaSender) (k : ControlSender)
    → let n = plain_sender (record { session = (sender_of c).session; media = m; control = k }) in
    sender_stored c n ≡ n
unfolding sender_of plain_sender
sender-left c e m k =
    let q = c.session.profile in
    let kept = profile-kept q (both (profile_named q) (two_cased c.has_last) e).0 in
    rw (e, kept.0, kept.1)

module _ (c : Receiver) (e : receiver_named c ≡ true) (w : core-window.Window) where
  parts-named : (profile_named c.session.profile ≡ true) × ((two_cased c.media.has_highest ≡ true) × (two_cased c.control.has_highest ≡ true))
  parts-named =
      let m = two_cased c.media.has_highest in
      let k = two_cased c.control.has_highest in
      let named = both (profile_named c.session.profile) (m && k) e in
      (named.0, both m k named.1)

  media-left : let s = receiver_of c in
      let n = plain_receiver (record { session = s.session; rollover = s.rollover; media = w; control = s.control }) in
      media_stored c n ≡ n
  unfolding receiver_of plain_receiver
  media-left =
      let kept = profile-kept c.session.profile parts-named.0 in
      rw (e, kept.0, kept.1, highest-kept c.control parts-named.1.1)

  control-left : let s = receiver_of c in
      let n = plain_receiver (record { session = s.session; rollover = s.rollover; media = s.media; control = w }) in
      control_stored c n ≡ n
  unfolding receiver_of plain_receiver
  control-left =
      let kept = profile-kept c.session.profile parts-named.0 in
      rw (e, kept.0, kept.1, highest-kept c.media parts-named.1.0)

-- ---- a refusal changes nothing, and a struct with a number that no enum has is refused
module _ {S P : Type 0} (plain : S → P) (stored : P → P → P) (c : P) (same : stored c c ≡ c) where
  abbrev Stored : Outcome S → Type 0
  Stored o = stored c (plain_next plain o c) ≡ plain_next plain o c

  settled-stores : (j : Judgement) (o : Outcome S) → Stored o → Stored (settled j o)
  settled-stores passes o h = h
  settled-stores (stops n) o h = same

  shown-stores : (o : Outcome S) (named : Bool) → (named ≡ true → Stored o) → (named ≡ false → o ≡ refused Setup) → (n : P) → n ≡ plain_next plain o c
      → stored c n ≡ n
  shown-stores o true h k n e = subst (λ (m : P). stored c m ≡ m) (sym e) (h refl)
  shown-stores o false h k n e = subst (λ (m : P). stored c m ≡ m) (sym e) (subst Stored (sym (k refl)) same)

-- ---- the calls
module _ (c : Sender) (p before : List ℕ) (r : After Sender) (after : List ℕ) where
  pub send-media-stores : SendsMedia c p before r after → sender_stored c r.next ≡ r.next
  unfolding send_media
  send-media-stores h =
      let s = sender_of c in
      let room = length before in
      shown-stores plain_sender sender_stored c refl (send_media s p room) (sender_named c)
      (λ e. settled-stores plain_sender sender_stored c refl (judged (send_media_rows s p room)) (media_sent s p _) (sender-left c e _ _))
      (unnamed-send-media p room c) r.next h.leaves

  pub send-control-stores : SendsControl c p before r after → sender_stored c r.next ≡ r.next
  unfolding send_control
  send-control-stores h =
      let s = sender_of c in
      let room = length before in
      shown-stores plain_sender sender_stored c refl (send_control s p room) (sender_named c)
      (λ e. settled-stores plain_sender sender_stored c refl (judged (send_control_rows s p room)) (control_sent s p _) (sender-left c e _ _))
      (unnamed-send-control p room c) r.next h.leaves

module _ (c : Receiver) (p before : List ℕ) (r : After Receiver) (after : List ℕ) where
  pub receive-media-stores : ReceivesMedia c p before r after → media_stored c r.next ≡ r.next
  unfolding receive_media
  receive-media-stores h =
      let s = receiver_of c in
      let room = length before in
      shown-stores plain_receiver media_stored c refl (receive_media s p room) (receiver_named c)
      (λ e. settled-stores plain_receiver media_stored c refl (judged (receive_media_rows s p room (media_index s p))) (media_opened s p _) (media-left c e _))
      (unnamed-receive-media p room c) r.next h.leaves

  pub receive-control-stores : ReceivesControl c p before r after → control_stored c r.next ≡ r.next
  unfolding receive_control
  receive-control-stores h =
      let s = receiver_of c in
      let room = length before in
      shown-stores plain_receiver control_stored c refl (receive_control s p room) (receiver_named c)
      (λ e. settled-stores plain_receiver control_stored c refl (judged (receive_control_rows s p room (control_index s.session p))) (control_opened s p _) (control-left c e _))
      (unnamed-receive-control p room c) r.next h.leaves
