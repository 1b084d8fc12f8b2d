-- The head of an RTCP packet (RFC 3550, 6.1 and 6.4.1): at least 8 bytes, a multiple of 4, version 2, and the SSRC of its sender
-- in bytes 4 to 7. Nothing else is examined. Assumes nothing.
use Rattle.std.specs.Prelude.{ℕ, ◌%◌, Bool, cond, ◌&&◌, List, Option, None, Some, eqb, leb, length, take, drop}
use Rattle.octets.specs.BigEndian.{from_bytes}
use Rattle.rtp.specs.Rtp.{version}
use Rattle.rtp.specs.declared.RtcpHeader.{RtcpHeader}

unfoldable pub is_rtcp : List ℕ → Bool
is_rtcp p = leb 8 (length p) && (eqb (length p % 4) 0 && eqb (version p) 2)

unfoldable pub rtcp_ssrc : List ℕ → ℕ
rtcp_ssrc p = from_bytes (take 4 (drop 4 p))

-- the 8 bytes that SRTCP leaves clear, and the RTCP payload, from the ninth byte to the end (RFC 3711, 3.4)
abbrev pub rtcp_header : List ℕ → List ℕ
rtcp_header p = take 8 p

abbrev pub rtcp_payload : List ℕ → List ℕ
rtcp_payload p = drop 8 p

-- what the reader answers
unfoldable pub rtcp_header_of : List ℕ → Option RtcpHeader
rtcp_header_of p = cond (is_rtcp p) (Some (record { ssrc = rtcp_ssrc p })) None
