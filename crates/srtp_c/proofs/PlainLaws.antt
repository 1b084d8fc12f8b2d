-- A context of `srtp` is what its plain form stands for; what a struct with an unknown number and what a struct of zeros stands for.
-- Assumes nothing.
use Prim.Native.Nat.{ℕ}
use mathlib.Core.Bool.{true, false}
use mathlib.Core.List.{List}
use Rattle.std.specs.Prelude.{Option, None, Some}
use mathlib.Core.Path.{◌≡◌, refl, ap}
use lib.ListN.{replicate}
use Rattle.hmac_sha1.specs.declared.State.{State}
use Rattle.transforms.specs.declared.SessionKeys.{SessionKeys}
use Rattle.transforms.specs.declared.Cipher.{Cipher}
use Rattle.transforms.specs.declared.Cipher.TheVariants.{Aes, Null}
use Rattle.transforms.specs.declared.Integrity.{Integrity}
use Rattle.transforms.specs.declared.Integrity.TheVariants.{HmacSha1, Rccm2}
use Rattle.session.specs.declared.Profile as core-profile
use Rattle.srtp.specs.declared.Sender.{Sender}
use Rattle.srtp.specs.declared.Receiver.{Receiver}
use Rattle.srtp.specs.declared.Refusal.TheVariants.{Setup}
use Rattle.srtp.specs.Contexts.{closed_sender, closed_receiver, sender_listed, receiver_listed}
use Rattle.srtp.specs.Outcomes.{refused}
use Rattle.srtp.specs.Calls.{send_media, send_control, receive_media, receive_control}
use Rattle.srtp_c.specs.declared.Profile.{Profile}
use Rattle.srtp_c.specs.declared.Session.{Session}
use Rattle.srtp_c.specs.declared.Window.{Window}
use Rattle.srtp_c.specs.declared.Sender as plain-sender
use Rattle.srtp_c.specs.declared.Receiver as plain-receiver
use Rattle.srtp_c.specs.Plain.{two_cased, cipher_of, cipher_number, integrity_of, integrity_number, integrity_rate}
use Rattle.srtp_c.specs.Plain.{marked, mark_of, value_of, profile_named, profile_of, plain_profile}
use Rattle.srtp_c.specs.Plain.{sender_named, sender_of, plain_sender, receiver_named, receiver_of, plain_receiver}

-- ---- enums
cipher-named : (x : Cipher) → two_cased (cipher_number x) ≡ true
cipher-named Aes = refl
cipher-named Null = refl

cipher-back : (x : Cipher) → cipher_of (cipher_number x) ≡ x
cipher-back Aes = refl
cipher-back Null = refl

integrity-named : (t : Integrity) → two_cased (integrity_number t) ≡ true
integrity-named HmacSha1 = refl
integrity-named (Rccm2 rate) = refl

integrity-back : (t : Integrity) → integrity_of (integrity_number t) (integrity_rate t) ≡ t
integrity-back HmacSha1 = refl
integrity-back (Rccm2 rate) = refl

mark-named : (o : Option ℕ) → two_cased (mark_of o) ≡ true
mark-named None = refl
mark-named (Some i) = refl

mark-back : (o : Option ℕ) → marked (mark_of o) (value_of o) ≡ o
mark-back None = refl
mark-back (Some i) = refl

-- ---- profiles
profile-named : (p : core-profile.Profile) → profile_named (plain_profile p) ≡ true
profile-named p = rw (cipher-named p.cipher, integrity-named p.integrity)

profile-back : (p : core-profile.Profile) → profile_of (plain_profile p) ≡ p
profile-back p = rw (cipher-back p.cipher, integrity-back p.integrity)

-- ---- contexts
pub sender-back : (c : Sender) → sender_of (plain_sender c) ≡ c
unfolding sender_of plain_sender
sender-back c =
    let p = c.session.settings.profile in
    let l = c.media.last in
    rw (profile-named p, mark-named l, profile-back p, mark-back l)

pub receiver-back : (c : Receiver) → receiver_of (plain_receiver c) ≡ c
unfolding receiver_of plain_receiver
receiver-back c =
    let p = c.session.settings.profile in
    let m = c.media.highest in
    let n = c.control.highest in
    rw (profile-named p, mark-named m, mark-named n, profile-back p, mark-back m, mark-back n)

-- ---- a number that no enum has: every call is refused as SETUP
module _ (packet : List ℕ) (room : ℕ) where
  module _ (c : plain-sender.Sender) (e : sender_named c ≡ false) where
    closed-sender : sender_of c ≡ closed_sender
    unfolding sender_of
    closed-sender = rw e

    pub unnamed-send-media : send_media (sender_of c) packet room ≡ refused Setup
    unfolding send_media closed_sender sender_listed
    unnamed-send-media = ap (λ (s : Sender). send_media s packet room) closed-sender

    pub unnamed-send-control : send_control (sender_of c) packet room ≡ refused Setup
    unfolding send_control closed_sender sender_listed
    unnamed-send-control = ap (λ (s : Sender). send_control s packet room) closed-sender

  module _ (c : plain-receiver.Receiver) (e : receiver_named c ≡ false) where
    closed-receiver : receiver_of c ≡ closed_receiver
    unfolding receiver_of
    closed-receiver = rw e

    pub unnamed-receive-media : receive_media (receiver_of c) packet room ≡ refused Setup
    unfolding receive_media closed_receiver receiver_listed
    unnamed-receive-media = ap (λ (s : Receiver). receive_media s packet room) closed-receiver

    pub unnamed-receive-control : receive_control (receiver_of c) packet room ≡ refused Setup
    unfolding receive_control closed_receiver receiver_listed
    unnamed-receive-control = ap (λ (s : Receiver). receive_control s packet room) closed-receiver

-- ---- the closed context is all zeros
abbrev zero_state : State
zero_state = record { a = 0; b = 0; c = 0; d = 0; e = 0 }

abbrev zero_keys : SessionKeys
zero_keys = record { round = replicate 44 0; tag = record { inner = zero_state; outer = zero_state }; salt = replicate 14 0 }

abbrev zero_profile : Profile
zero_profile = record { cipher = 0; integrity = 0; rate = 0; tag_len = 0 }

abbrev zero_session : Session
zero_session = record { profile = zero_profile; ssrc = 0; mki = replicate 4 0; mki_len = 0; media = zero_keys; control = zero_keys }

abbrev zero_window : Window
zero_window = record { has_highest = 0; highest = 0; words = replicate 16 0 }

pub sender-zeros : plain_sender closed_sender ≡ record { session = zero_session; has_last = 0; last_index = 0; control_sent = 0 }
unfolding plain_sender closed_sender
sender-zeros = refl

pub receiver-zeros : plain_receiver closed_receiver ≡ record { session = zero_session; rollover = 0; media = zero_window; control = zero_window }
unfolding plain_receiver closed_receiver
receiver-zeros = refl
