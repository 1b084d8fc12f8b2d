-- Answers as bytes, big end first: op (1), refusal number, 0 or 255 (1), index (8), length (2), size of the outgoing buffer (2), and the
-- whole outgoing buffer. Assumes nothing.
use Rattle.std.specs.Prelude.{ℕ, List, ◌∷◌, ◌++◌, length, Result}
use Rattle.octets.specs.BigEndian.{to_bytes}
use Rattle.srtp.specs.declared.Refusal.{Refusal}
use Rattle.srtp.specs.Outcomes.{Answer, Shown, shown, set_up_shown}
use Rattle.trace_records.specs.declared.Head.{Head}

-- bytes before the buffer
abbrev pub head_length : ℕ
head_length = 14

unfoldable pub head_bytes : (op : ℕ) → Head → (room : ℕ) → List ℕ
head_bytes op h room = op ∷ h.number ∷ (to_bytes 8 h.index ++ (to_bytes 2 h.len ++ to_bytes 2 room))

abbrev pub answer_bytes : (op : ℕ) → Head → (buffer : List ℕ) → List ℕ
answer_bytes op h buffer = head_bytes op h (length buffer) ++ buffer

-- a number alone: index and length are 0
abbrev pub number_alone : ℕ → Head
number_alone n = record { number = n; index = 0; len = 0 }

-- a record that does not fit
abbrev pub misfit_head : Head
misfit_head = number_alone 255

-- a call, or a set-up: an answer in the terms of the table of refusals
abbrev pub head_of : Shown → Head
head_of s = record { number = s.number; index = s.index; len = s.len }

abbrev pub call_head : Answer → Head
call_head a = head_of (shown a)

abbrev pub set_up_head : Result Unit Refusal → Head
set_up_head a = head_of (set_up_shown a)
