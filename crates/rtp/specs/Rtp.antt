-- The header of an RTP packet (RFC 3550, 5.1 and 5.3.1), read from its bytes p. Where p ends early, a number is that of the
-- bytes there are; `is_rtp` has the whole header fit, so no such number is ever answered. Assumes nothing.
use Rattle.std.specs.Prelude.{ℕ, ◌+◌, ◌*◌, ◌/◌, ◌%◌, ◌^◌, Bool, cond, ◌&&◌, List, Option, None, Some, eqb, leb, length, get_or, take, drop}
use Rattle.octets.specs.BigEndian.{from_bytes}
use Rattle.rtp.specs.declared.Header.{Header}

-- ---- the first byte (5.1): V, X and CC
-- the top two bits
abbrev pub version : List ℕ → ℕ
version p = get_or p 0 0 / 2 ^ 6

-- the bit worth 16
abbrev pub extension_bit : List ℕ → ℕ
extension_bit p = get_or p 0 0 / 2 ^ 4 % 2

-- the low four bits: how many contributing sources are listed
abbrev pub csrc_count : List ℕ → ℕ
csrc_count p = get_or p 0 0 % 2 ^ 4

-- ---- the header's length
-- 12 bytes, then 4 for each source (5.1)
abbrev pub csrc_end : List ℕ → ℕ
csrc_end p = 12 + 4 * csrc_count p

-- the last two of the extension's first 4 bytes (5.3.1)
abbrev pub extension_words : List ℕ → ℕ
extension_words p = from_bytes (take 2 (drop (csrc_end p + 2) p))

-- with the extension, if its bit is set: 4 bytes and the 32-bit words that they count (5.3.1)
unfoldable pub header_length : List ℕ → ℕ
header_length p = csrc_end p + cond (eqb (extension_bit p) 1) (4 + 4 * extension_words p) 0

-- ---- the packet
-- version 2, and the whole header fits
unfoldable pub is_rtp : List ℕ → Bool
is_rtp p = eqb (version p) 2 && leb (header_length p) (length p)

-- bytes 2 and 3, and bytes 8 to 11 (5.1), big end first
unfoldable pub sequence_number : List ℕ → ℕ
sequence_number p = from_bytes (take 2 (drop 2 p))

unfoldable pub rtp_ssrc : List ℕ → ℕ
rtp_ssrc p = from_bytes (take 4 (drop 8 p))

abbrev pub header : List ℕ → List ℕ
header p = take (header_length p) p

-- what follows the header; it may be empty, and padding is part of it
abbrev pub payload : List ℕ → List ℕ
payload p = drop (header_length p) p

-- what the reader answers
unfoldable pub header_of : List ℕ → Option Header
header_of p = cond (is_rtp p) (Some (record { len = header_length p; sequence_number = sequence_number p; ssrc = rtp_ssrc p })) None
