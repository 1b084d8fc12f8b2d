-- The table of refusals in words: the text of each row, and of a number that no row has. Assumes nothing.
use Rattle.std.specs.Prelude.{ℕ, List, ◌++◌, codes}
use Rattle.std.specs.Fmt.{decimal}
use Rattle.srtp.specs.declared.Refusal.{Refusal}
use Rattle.srtp.specs.declared.Refusal.TheVariants.{Setup, Long, Shape, Stream, Room, Key, Order, Spent, Old, Repeat, Forged}

abbrev pub refusal_text : Refusal → List ℕ
refusal_text Setup = codes "SETUP (values off the list, or a closed context)"
refusal_text Long = codes "LONG (over 2,048 bytes)"
refusal_text Shape = codes "SHAPE (not the layout of a packet)"
refusal_text Stream = codes "STREAM (another SSRC)"
refusal_text Room = codes "ROOM (the outgoing buffer is too short)"
refusal_text Key = codes "KEY (another MKI)"
refusal_text Order = codes "ORDER (the number does not follow the last one sent)"
refusal_text Spent = codes "SPENT (no index is left)"
refusal_text Old = codes "OLD (behind the replay window)"
refusal_text Repeat = codes "REPEAT (accepted already)"
refusal_text Forged = codes "FORGED (the authentication tag is wrong)"

abbrev pub unknown_number_text : (number : ℕ) → List ℕ
unknown_number_text n = codes "no refusal has number " ++ decimal n
