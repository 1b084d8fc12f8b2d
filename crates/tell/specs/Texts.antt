-- What is printed of an answer and of the sum, without the number of the record and the call. Assumes nothing.
use Rattle.std.specs.Prelude.{ℕ, List, ◌++◌, codes}
use Rattle.std.specs.Fmt.{decimal}
use Rattle.srtp.specs.RefusalTexts.{refusal_text}
use Rattle.tell.specs.declared.reading.Told.{Told}
use Rattle.tell.specs.declared.reading.Told.TheVariants.{Ready, Sent, Accepted, Refused, Misfit, Unknown}
use Rattle.tell.specs.declared.sum.Sum.{Sum}

abbrev pub told_text : Told → List ℕ
told_text Ready = codes "ready"
told_text (Sent n i) = codes "sent, " ++ (decimal n ++ (codes " bytes at index " ++ decimal i))
told_text (Accepted n i) = codes "let in, " ++ (decimal n ++ (codes " bytes at index " ++ decimal i))
told_text (Refused r) = codes "refused: " ++ refusal_text r
told_text Misfit = codes "not a record of the format"
told_text Unknown = codes "not an answer of the format"

abbrev pub sum_text : Sum → List ℕ
sum_text s =
    codes "sum of " ++ (decimal s.answers ++ (codes " answers: " ++ (decimal s.sent ++ (codes " sent, "
    ++ (decimal s.accepted ++ (codes " let in, " ++ (decimal s.refused ++ codes " refused")))))))
