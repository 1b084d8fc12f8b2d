-- RFC 3711, and RFC 4771 for the media tag, in their own terms: what a plain packet becomes at an index, from master key, master salt, MKI,
-- profile (cipher, integrity transform, tag length) and SSRC, by AES-128 and HMAC-SHA1. No context and nothing that is worked out at set-up
-- stands in it. Assumes nothing.
use Rattle.std.specs.Prelude.{ℕ, ◌+◌, ◌-◌, ◌/◌, ◌%◌, ◌^◌, Bool, cond, List, ◌++◌, length, take, drop}
use Rattle.octets.specs.BigEndian.{to_bytes, from_bytes}
use Rattle.octets.specs.Xor.{xors}
use Rattle.hmac_sha1.specs.Hmac.{hmac}
use Rattle.rtp.specs.Rtp.{header, payload}
use Rattle.rtp.specs.Protected.{index_word}
use Rattle.transforms.specs.CounterMode.{initial_counter}
use Rattle.transforms.specs.KeyDerivation.{media_label, control_label}
use Rattle.transforms.specs.Rfc3711.{counter_mode, prf}
use Rattle.transforms.specs.Rcc.{carries_counter}
use Rattle.transforms.specs.declared.Cipher.{Cipher}
use Rattle.transforms.specs.declared.Cipher.TheVariants.{Aes, Null}
use Rattle.session.specs.Packets.{control_tag_length}
use Rattle.session.specs.SetUps.{SetUp}

module _ (u : SetUp) where
  -- 4.3.1: n bytes of session key at a label (4.3.2: 0, 1, 2 for SRTP's encryption, authentication and salting key; 3, 4, 5 for SRTCP's)
  abbrev pub session_key : (label n : ℕ) → List ℕ
  session_key label n = prf u.master_key u.master_salt label n

  -- 4.1.1, 4.1.3: a text encrypted, under the keys from a label on
  abbrev pub encrypted_by : Cipher → (label index : ℕ) → (text : List ℕ) → List ℕ
  encrypted_by Aes label i text =
      xors text (counter_mode (session_key label 16) (initial_counter (from_bytes (session_key (label + 2) 14)) u.ssrc i) (length text))
  encrypted_by Null label i text = text

  -- 4.2.1: the authentication tag of n bytes
  abbrev pub tagged : (label n : ℕ) → List ℕ → List ℕ
  tagged label n m = take n (hmac (session_key (label + 1) 20) m)

  -- 4.2: the media tag of n bytes, over header, encrypted payload and the rollover counter of the index
  abbrev pub srtp_mac : (n : ℕ) → (authenticated : List ℕ) → (index : ℕ) → List ℕ
  srtp_mac n a i = tagged media_label n (a ++ to_bytes 4 (i / 2 ^ 16))

  -- RFC 4771, 2 and 3: where the sequence number is 0 mod the rate, the rollover counter and a tag of n - 4 bytes; elsewhere, and without
  -- that transform everywhere, RFC 3711's tag
  abbrev pub srtp_tag : (authenticated : List ℕ) → (index : ℕ) → List ℕ
  srtp_tag a i =
      let n = u.profile.tag_len in
      cond (carries_counter u.profile.integrity (i % 2 ^ 16)) (to_bytes 4 (i / 2 ^ 16) ++ srtp_mac (n - 4) a i) (srtp_mac n a i)

  -- 3.1 (figure 1): header in clear, payload encrypted, MKI, tag
  abbrev pub srtp_packet : (packet : List ℕ) → (index : ℕ) → List ℕ
  srtp_packet p i =
      let a = header p ++ encrypted_by u.profile.cipher media_label i (payload p) in
      a ++ u.mki ++ srtp_tag a i

  -- 3.4 (figure 2) and 4.2: 8 bytes in clear, the rest encrypted if E is 1, a word with E and the index, MKI, tag; the tag is over
  -- everything before the MKI
  abbrev pub srtcp_tag : (authenticated : List ℕ) → List ℕ
  srtcp_tag a = tagged control_label control_tag_length a

  abbrev pub srtcp_packet : (e : Bool) → (packet : List ℕ) → (index : ℕ) → List ℕ
  srtcp_packet e p i =
      let a = take 8 p ++ cond e (encrypted_by u.profile.cipher control_label i (drop 8 p)) (drop 8 p) ++ to_bytes 4 (index_word e i) in
      a ++ u.mki ++ srtcp_tag a
