-- Answers of a trace read back: the fields before the buffer, and what they tell of the record. Assumes nothing.
use Rattle.std.specs.Prelude.{ℕ, cond, ◌&&◌, List, eqb, leb, ltb, Option, None, Some}
use Rattle.srtp.specs.Refusals.{refusal_of as numbered}
use Rattle.srtp.specs.declared.Refusal.{Refusal}
use Rattle.trace_records.specs.declared.Head.{Head}
use Rattle.trace_records.specs.Layouts.{byte_at, number_at}
use Rattle.tell.specs.declared.reading.Front.{Front}
use Rattle.tell.specs.declared.reading.Told.{Told}
use Rattle.tell.specs.declared.reading.Told.TheVariants.{Ready, Sent, Accepted, Refused, Misfit, Unknown}

-- op (1), refusal number, 0 or 255 (1), index (8), length (2), size of the buffer (2)
unfoldable pub front_of : List ℕ → Front
front_of b =
    record {
      op = byte_at 0 b;
      head = record { number = byte_at 1 b; index = number_at 8 2 b; len = number_at 2 10 b };
      room = number_at 2 12 b;
    }

-- the refusal with this number in the table, if one has it
abbrev pub told_refusal : Option Refusal → Told
told_refusal None = Unknown
told_refusal (Some r) = Refused r

unfoldable pub refusal_of : ℕ → Told
refusal_of n = told_refusal (numbered n)

-- ops 1 and 2 set up, 3 and 4 send, 5 and 6 receive
abbrev pub finished : (op : ℕ) → Head → Told
finished op h = cond (ltb op 3) Ready (cond (ltb op 5) (Sent h.len h.index) (Accepted h.len h.index))

unfoldable pub told_of : (op : ℕ) → Head → Told
told_of op h =
    cond (eqb h.number 255) Misfit
    (cond (leb 1 op && leb op 6) (cond (eqb h.number 0) (finished op h) (refusal_of h.number)) Unknown)
