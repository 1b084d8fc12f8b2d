-- The ops of records, and what they are called. Assumes nothing.
use Rattle.std.specs.Prelude.{◌≡◌, ℕ, ◌<◌, ◌⊎◌, List, ◌++◌, Result, MatchResult, codes}
use Rattle.std.specs.Fmt.{decimal}
use Rattle.trace_records.specs.declared.ops.Op.{Op}
use Rattle.trace_records.specs.declared.ops.Op.TheVariants.{SetUpSender, SetUpReceiver, Call}
use Rattle.trace_records.specs.declared.ops.Call.TheVariants.{SendMedia, SendControl, ReceiveMedia, ReceiveControl}
use Rattle.trace_records.specs.declared.ops.UnknownOp.{UnknownOp}

-- ops 1 and 2 set up, 3 to 6 are calls
abbrev pub op_number : Op → ℕ
op_number SetUpSender = 1
op_number SetUpReceiver = 2
op_number (Call SendMedia) = 3
op_number (Call SendControl) = 4
op_number (Call ReceiveMedia) = 5
op_number (Call ReceiveControl) = 6

-- the op with this number; or the number, where it is none of 1 to 6
abbrev pub Names : ℕ → Result Op UnknownOp → Type 0
Names n r = MatchResult r (λ op. op_number op ≡ n) (λ e. (e.0 ≡ n) × ((n < 1) ⊎ (6 < n)))

-- ---- in words
abbrev pub op_text : Op → List ℕ
op_text SetUpSender = codes "set up sender"
op_text SetUpReceiver = codes "set up receiver"
op_text (Call SendMedia) = codes "send media"
op_text (Call SendControl) = codes "send control"
op_text (Call ReceiveMedia) = codes "receive media"
op_text (Call ReceiveControl) = codes "receive control"

abbrev pub unknown_op_text : (op : ℕ) → List ℕ
unknown_op_text n = codes "op " ++ decimal n
