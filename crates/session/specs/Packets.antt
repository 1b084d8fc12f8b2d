-- RFC 3711, sections 3.1, 3.3 and 3.4, and RFC 4771: what a packet becomes under a session, at an index. Assumes nothing.
use Rattle.std.specs.Prelude.{ℕ, Bool, true, false, cond, List, ◌++◌, take, drop}
use Rattle.octets.specs.BigEndian.{to_bytes}
use Rattle.rtp.specs.Rtp.{header, payload}
use Rattle.rtp.specs.Protected.{index_word}
use Rattle.transforms.specs.declared.Cipher.{Cipher}
use Rattle.transforms.specs.declared.Cipher.TheVariants.{Aes, Null}
use Rattle.transforms.specs.Ciphers.{ciphered}
use Rattle.transforms.specs.declared.Integrity.{Integrity}
use Rattle.transforms.specs.Tag as tag
use Rattle.transforms.specs.Rcc.{integrity_tag}
use Rattle.session.specs.declared.Session.{Session}

-- the control tag is always 10 bytes
abbrev pub control_tag_length : ℕ
control_tag_length = 10

-- the settings that packets are under
abbrev pub cipher_of : Session → Cipher
cipher_of s = s.settings.profile.cipher

abbrev pub integrity_of : Session → Integrity
integrity_of s = s.settings.profile.integrity

abbrev pub ssrc_of : Session → ℕ
ssrc_of s = s.settings.ssrc

abbrev pub tag_length : Session → ℕ
tag_length s = s.settings.profile.tag_len

unfoldable pub mki_bytes : Session → List ℕ
mki_bytes s = take s.settings.mki_len s.settings.mki

-- ---- media (3.1)
-- header in clear, payload enciphered at equal length. It deciphers as it enciphers.
unfoldable pub ciphered_media : Session → List ℕ → ℕ → List ℕ
ciphered_media s p i = header p ++ ciphered (cipher_of s) s.media (ssrc_of s) i (header p) (payload p)

-- the tag over header, enciphered payload and the rollover counter of the packet's index, which RFC 4771's carries on some packets
unfoldable pub media_tag : Session → List ℕ → ℕ → List ℕ
media_tag s a i = integrity_tag (integrity_of s) (tag_length s) s.media a i

-- and MKI and tag behind it
unfoldable pub srtp : Session → List ℕ → ℕ → List ℕ
srtp s p i = ciphered_media s p i ++ mki_bytes s ++ media_tag s (ciphered_media s p i) i

-- ---- control (3.4)
-- the sender sets E exactly when its cipher is AES
abbrev pub encrypts : Cipher → Bool
encrypts Aes = true
encrypts Null = false

-- 8 bytes in clear, the rest enciphered if E is 1
unfoldable pub ciphered_control : Session → (e : Bool) → List ℕ → ℕ → List ℕ
ciphered_control s e p i = take 8 p ++ cond e (ciphered (cipher_of s) s.control (ssrc_of s) i (take 8 p) (drop 8 p)) (drop 8 p)

-- and behind it the word with E and the index
unfoldable pub control_portion : Session → (e : Bool) → List ℕ → ℕ → List ℕ
control_portion s e p i = ciphered_control s e p i ++ to_bytes 4 (index_word e i)

-- the tag over everything before the MKI
unfoldable pub control_tag : Session → List ℕ → List ℕ
control_tag s a = tag.control_tag control_tag_length s.control a

unfoldable pub srtcp : Session → (e : Bool) → List ℕ → ℕ → List ℕ
srtcp s e p i = control_portion s e p i ++ mki_bytes s ++ control_tag s (control_portion s e p i)
