-- The worked cases hold, by computation. Assumes nothing.
use mathlib.Core.Path.{refl}
use Rattle.replay.specs.Row.{from_words}
use Rattle.rtp.specs.Rtp.{header_of, is_rtp, header_length, sequence_number, rtp_ssrc}
use Rattle.worked_cases.specs.Cases.{CasesHold}

pub cases-hold : CasesHold
unfolding from_words header_of is_rtp header_length sequence_number rtp_ssrc
cases-hold rollover = refl
