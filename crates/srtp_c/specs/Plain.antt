-- What a plain struct of the boundary stands for, and the plain form of a value of `srtp`. A number that no enum has makes a context the
-- closed one. Assumes nothing.
use Rattle.std.specs.Prelude.{ℕ, Bool, cond, ◌&&◌, eqb, leb, Option, None, Some}
use Rattle.replay.specs.declared.window.Window as core-window
use Rattle.transforms.specs.declared.Cipher.{Cipher}
use Rattle.transforms.specs.declared.Cipher.TheVariants.{Aes, Null}
use Rattle.transforms.specs.declared.Integrity.{Integrity}
use Rattle.transforms.specs.declared.Integrity.TheVariants.{HmacSha1, Rccm2}
use Rattle.session.specs.declared.Profile as core-profile
use Rattle.session.specs.declared.Session as core-session
use Rattle.srtp.specs.declared.Sender as core-sender
use Rattle.srtp.specs.declared.Receiver as core-receiver
use Rattle.srtp.specs.Contexts.{closed_sender, closed_receiver}
use Rattle.srtp_c.specs.declared.Profile.{Profile}
use Rattle.srtp_c.specs.declared.Session.{Session}
use Rattle.srtp_c.specs.declared.Sender.{Sender}
use Rattle.srtp_c.specs.declared.Window.{Window}
use Rattle.srtp_c.specs.declared.Receiver.{Receiver}

-- ---- enums of two cases: 0 and 1
abbrev pub two_cased : ℕ → Bool
two_cased n = leb n 1

abbrev pub cipher_of : ℕ → Cipher
cipher_of n = cond (eqb n 1) Aes Null

abbrev pub cipher_number : Cipher → ℕ
cipher_number Null = 0
cipher_number Aes = 1

abbrev pub integrity_of : (n rate : ℕ) → Integrity
integrity_of n rate = cond (eqb n 1) (Rccm2 rate) HmacSha1

abbrev pub integrity_number : Integrity → ℕ
integrity_number HmacSha1 = 0
integrity_number (Rccm2 rate) = 1

abbrev pub integrity_rate : Integrity → ℕ
integrity_rate HmacSha1 = 0
integrity_rate (Rccm2 rate) = rate

-- ---- what may be absent: a mark, 1 where it is there, and the value, 0 where it is not
abbrev pub marked : (mark index : ℕ) → Option ℕ
marked mark i = cond (eqb mark 1) (Some i) None

abbrev pub mark_of : Option ℕ → ℕ
mark_of None = 0
mark_of (Some i) = 1

abbrev pub value_of : Option ℕ → ℕ
value_of None = 0
value_of (Some i) = i

-- ---- profiles and sessions
-- whether each number of an enum is one
abbrev pub profile_named : Profile → Bool
profile_named p = two_cased p.cipher && two_cased p.integrity

abbrev pub profile_of : Profile → core-profile.Profile
profile_of p = record { cipher = cipher_of p.cipher; integrity = integrity_of p.integrity p.rate; tag_len = p.tag_len }

abbrev pub plain_profile : core-profile.Profile → Profile
plain_profile p =
    record {
      cipher = cipher_number p.cipher;
      integrity = integrity_number p.integrity;
      rate = integrity_rate p.integrity;
      tag_len = p.tag_len;
    }

abbrev pub session_of : Session → core-session.Session
session_of s =
    record {
      settings = record { profile = profile_of s.profile; ssrc = s.ssrc; mki = s.mki; mki_len = s.mki_len };
      media = s.media;
      control = s.control;
    }

abbrev pub plain_session : core-session.Session → Session
plain_session s =
    record {
      profile = plain_profile s.settings.profile;
      ssrc = s.settings.ssrc;
      mki = s.settings.mki;
      mki_len = s.settings.mki_len;
      media = s.media;
      control = s.control;
    }

-- ---- senders. A struct is a context where each number of an enum has a case, and else stands for the closed one.
abbrev pub sender_named : Sender → Bool
sender_named c = profile_named c.session.profile && two_cased c.has_last

unfoldable pub sender_of : Sender → core-sender.Sender
sender_of c =
    cond (sender_named c)
    (record {
      session = session_of c.session;
      media = record { last = marked c.has_last c.last_index };
      control = record { sent = c.control_sent };
    })
    closed_sender

unfoldable pub plain_sender : core-sender.Sender → Sender
plain_sender c =
    record {
      session = plain_session c.session;
      has_last = mark_of c.media.last;
      last_index = value_of c.media.last;
      control_sent = c.control.sent;
    }

-- ---- receivers
abbrev pub window_of : Window → core-window.Window
window_of w = record { highest = marked w.has_highest w.highest; words = w.words }

abbrev pub plain_window : core-window.Window → Window
plain_window w = record { has_highest = mark_of w.highest; highest = value_of w.highest; words = w.words }

abbrev pub receiver_named : Receiver → Bool
receiver_named c = profile_named c.session.profile && (two_cased c.media.has_highest && two_cased c.control.has_highest)

unfoldable pub receiver_of : Receiver → core-receiver.Receiver
receiver_of c =
    cond (receiver_named c)
    (record { session = session_of c.session; rollover = c.rollover; media = window_of c.media; control = window_of c.control })
    closed_receiver

unfoldable pub plain_receiver : core-receiver.Receiver → Receiver
plain_receiver c =
    record { session = plain_session c.session; rollover = c.rollover; media = plain_window c.media; control = plain_window c.control }
