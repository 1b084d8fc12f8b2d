-- RFC 3711, section 4.1: a cipher is a keystream that session keys, SSRC, index and clear part of a packet fix; the text is XORed with it.
-- Assumes nothing.
use Rattle.std.specs.Prelude.{ℕ, ◌+◌, List, length, drop, replicate}
use Rattle.octets.specs.BigEndian.{from_bytes}
use Rattle.octets.specs.Xor.{xors}
use Rattle.transforms.specs.CounterMode.{initial_counter, keystream}
use Rattle.transforms.specs.declared.SessionKeys.{SessionKeys}
use Rattle.transforms.specs.declared.Cipher.{Cipher}
use Rattle.transforms.specs.declared.Cipher.TheVariants.{Aes, Null}

-- the first n bytes of a packet's keystream: 4.1.1, and 4.1.3: "the keystream can be thought of as 000..0"
unfoldable pub stream : Cipher → SessionKeys → (ssrc index : ℕ) → (clear : List ℕ) → (n : ℕ) → List ℕ
stream Aes k ssrc index clear n = keystream k.round (initial_counter (from_bytes k.salt) ssrc index) n
stream Null k ssrc index clear n = replicate n 0

-- a text under the cipher. Enciphering and deciphering are the same.
unfoldable pub ciphered : Cipher → SessionKeys → (ssrc index : ℕ) → (clear text : List ℕ) → List ℕ
ciphered c k ssrc index clear text = xors text (stream c k ssrc index clear (length text))

-- a part of a text that starts at byte start of the packet's stream
unfoldable pub ciphered_from : (start : ℕ) → Cipher → SessionKeys → (ssrc index : ℕ) → (clear text : List ℕ) → List ℕ
ciphered_from start c k ssrc index clear text = xors text (drop start (stream c k ssrc index clear (start + length text)))
