-- Protected packets (RFC 3711, 3.1 with figure 1 and 3.4 with figure 2). Each ends in an MKI of m bytes and an authentication
-- tag of t bytes. Where they don't fit, nothing is left before them, which is neither RTP nor RTCP. Assumes nothing.
use Rattle.std.specs.Prelude.{ℕ, ◌+◌, ◌-◌, ◌/◌, ◌%◌, ◌^◌, Bool, cond, List, Option, None, Some, eqb, length, take, drop}
use Rattle.octets.specs.BigEndian.{from_bytes}
use Rattle.rtp.specs.Rtp.{is_rtp, header_length, sequence_number, rtp_ssrc}
use Rattle.rtp.specs.Rtcp.{is_rtcp, rtcp_ssrc}
use Rattle.rtp.specs.declared.SrtpLayout.{SrtpLayout}
use Rattle.rtp.specs.declared.SrtcpLayout.{SrtcpLayout}

-- ---- the end of every protected packet
-- where MKI and tag begin
abbrev pub mki_place : (m t : ℕ) → List ℕ → ℕ
mki_place m t b = length b - (m + t)

abbrev pub tag_place : (t : ℕ) → List ℕ → ℕ
tag_place t b = length b - t

-- the Authenticated Portion: everything before the MKI
unfoldable pub authenticated_portion : (m t : ℕ) → List ℕ → List ℕ
authenticated_portion m t b = take (mki_place m t b) b

unfoldable pub mki_of : (m t : ℕ) → List ℕ → List ℕ
mki_of m t b = take m (drop (mki_place m t b) b)

unfoldable pub tag_of : (t : ℕ) → List ℕ → List ℕ
tag_of t b = drop (tag_place t b) b

-- ---- SRTP (3.1): header, payload, MKI, tag. The header must fit before MKI and tag; the payload reaches from it to the MKI.
unfoldable pub srtp_layout_of : (m t : ℕ) → List ℕ → Option SrtpLayout
srtp_layout_of m t b =
    let a = authenticated_portion m t b in
    cond (is_rtp a)
    (Some (record {
      header = record { len = header_length a; sequence_number = sequence_number a; ssrc = rtp_ssrc a };
      mki = mki_place m t b;
      tag = tag_place t b;
    }))
    None

-- ---- SRTCP (3.4): the Authenticated Portion ends in a 32-bit word, the E flag on top and the SRTCP index in the 31 bits below
abbrev pub word_place : List ℕ → ℕ
word_place a = length a - 4

-- the part before that word
unfoldable pub rtcp_portion : List ℕ → List ℕ
rtcp_portion a = take (word_place a) a

unfoldable pub word_of : List ℕ → ℕ
word_of a = from_bytes (take 4 (drop (word_place a) a))

unfoldable pub e_flag : ℕ → Bool
e_flag w = eqb (w / 2 ^ 31) 1

unfoldable pub srtcp_index : ℕ → ℕ
srtcp_index w = w % 2 ^ 31

-- the word of a flag and an index; of an index above 31 bits the low 31 are taken
unfoldable pub index_word : Bool → ℕ → ℕ
index_word e i = cond e (2 ^ 31) 0 + i % 2 ^ 31

-- the part before the word must be RTCP
unfoldable pub srtcp_layout_of : (m t : ℕ) → List ℕ → Option SrtcpLayout
srtcp_layout_of m t b =
    let a = authenticated_portion m t b in
    cond (is_rtcp (rtcp_portion a))
    (Some (record {
      header = record { ssrc = rtcp_ssrc (rtcp_portion a) };
      encrypted = e_flag (word_of a);
      index = srtcp_index (word_of a);
      word = word_place a;
      mki = mki_place m t b;
      tag = tag_place t b;
    }))
    None
