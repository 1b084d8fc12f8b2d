-- What the readers' private steps answer. No part of a standard: no public contract cites it. Assumes nothing.
use Rattle.std.specs.Prelude.{ℕ, ◌+◌, ◌-◌, cond, List, Option, None, Some, leb, length}
use Rattle.rtp.specs.Rtp.{sequence_number, rtp_ssrc}
use Rattle.rtp.specs.declared.Header.{Header}
use Rattle.rtp.specs.declared.Trailer.{Trailer}

-- a header of n bytes, if so many are there
abbrev pub header_up_to : ℕ → List ℕ → Option Header
header_up_to n p = cond (leb n (length p)) (Some (record { len = n; sequence_number = sequence_number p; ssrc = rtp_ssrc p })) None

-- an MKI of m bytes and a tag of t bytes at the end of n bytes, if they fit
abbrev pub trailer_of : (m t n : ℕ) → Option Trailer
trailer_of m t n = cond (leb (m + t) n) (Some (record { mki = n - (m + t); tag = n - t })) None
