-- The index of a packet: RFC 3711, 3.3.1, and 01, 'Arithmetic of the index', which settles what the RFC leaves open (equal distances) and
-- differs from it in one point (an index never wraps, at either end). H is a receiver's highest index. Assumes nothing.
use Rattle.std.specs.Prelude.{ℕ, suc, ◌+◌, ◌-◌, ◌*◌, ◌/◌, ◌%◌, ◌^◌, ◌≤◌, ◌<◌, ◌≡◌, Bool, false, cond, ◌||◌, eqb, leb, ltb, ℤ, pos, negsuc, ◌+ℤ◌, Option, None, Some, Result, Ok, Err}
use Rattle.std.proofs.Math.IntN.{sub_ℕ}
use Rattle.replay.specs.declared.index.OutOfRange.{OutOfRange}
use Rattle.replay.specs.declared.index.OutOfRange.TheVariants as out_of_range
use Rattle.replay.specs.declared.index.NoIndex.{NoIndex}
use Rattle.replay.specs.declared.index.NoIndex.TheVariants as no_index
use Rattle.replay.specs.declared.index.MediaSender.{MediaSender}
use Rattle.replay.specs.declared.index.ControlSender.{ControlSender}
use Rattle.replay.specs.declared.index.Step.{Step}

-- i = 2^16 * ROC + SEQ, and back
abbrev pub index_of : (rollover number : ℕ) → ℕ
index_of rollover number = 65536 * rollover + number

abbrev pub rollover_of : (index : ℕ) → ℕ
rollover_of i = i / 65536

abbrev pub number_of : (index : ℕ) → ℕ
number_of i = i % 65536

-- the last media index; the last control index; so many control packets may be sent
abbrev pub max_media_index : ℕ
max_media_index = 2 ^ 48 - 1

abbrev pub max_control_index : ℕ
max_control_index = 2 ^ 31 - 1

abbrev pub max_control_packets : ℕ
max_control_packets = 2 ^ 31

-- (number - number of i) mod 65,536: how far ahead of i the next index with this number lies
abbrev pub ahead : (i number : ℕ) → ℕ
ahead i number = (number + (65536 - i % 65536)) % 65536

-- ---- receiving media
-- the distance d from H to a packet: up to 32,768 it counts as ahead, beyond that as behind
abbrev pub distance : (h number : ℕ) → ℤ
distance h number = cond (leb (ahead h number) 32768) (pos (ahead h number)) (sub_ℕ (ahead h number) 65536)

-- from -32,767 to 32,768. (negsuc g is -(g + 1).)
abbrev pub InRange : ℤ → Type 0
InRange (pos f) = f ≤ 32768
InRange (negsuc g) = suc g ≤ 32767

-- h + d ≡ number (mod 65,536), with a d behind on the other side: h ≡ number + (g + 1)
abbrev pub Leads : (h : ℕ) → ℤ → (number : ℕ) → Type 0
Leads h (pos f) number = (h + f) % 65536 ≡ number
Leads h (negsuc g) number = h % 65536 ≡ (number + suc g) % 65536

-- what 01 says of d. One whole number is so, and `distance` is that number (`distance_is`, `distance-only`)
pub record IsDistance (h number : ℕ) (d : ℤ) : Type 0 where
  pub in_range : InRange d
  pub leads : Leads h d number

-- the index of a packet, H + d, which may lie below 0. With no H, the rollover counter that set-up gave and the number make it
abbrev pub estimate : (rollover number : ℕ) → Option ℕ → ℤ
estimate rollover number None = pos (index_of rollover number)
estimate rollover number (Some h) = pos h +ℤ distance h number

-- below 0 it is OLD, above 2^48 - 1 it is SPENT
abbrev pub placed : ℤ → Result ℕ OutOfRange
placed (pos i) = cond (ltb max_media_index i) (Err out_of_range.Spent) (Ok i)
placed (negsuc j) = Err out_of_range.Old

-- an index within reach: at most n - 1 behind H or 32,767 ahead of it; with no H, one that carries the rollover counter of set-up
abbrev pub Near : (n rollover : ℕ) → Option ℕ → (index : ℕ) → Type 0
Near n rollover None i = rollover_of i ≡ rollover
Near n rollover (Some h) i = (h < i + n) × (i ≤ h + 32767)

-- ---- sending media
-- the index of the first packet is its number, that of a later one the last index plus the step
abbrev pub next_index : Option ℕ → (number : ℕ) → ℕ
next_index None number = number
next_index (Some i) number = i + ahead i number

-- the step is 0, or 32,768 and above
abbrev pub out_of_order : Option ℕ → (number : ℕ) → Bool
out_of_order None number = false
out_of_order (Some i) number = eqb (ahead i number) 0 || leb 32768 (ahead i number)

-- ORDER, SPENT or the index
abbrev pub next_media : Option ℕ → (number : ℕ) → Result ℕ NoIndex
next_media l number =
    cond (out_of_order l number) (Err no_index.Order)
    (cond (ltb max_media_index (next_index l number)) (Err no_index.Spent)
    (Ok (next_index l number)))

abbrev pub media_start : MediaSender
media_start = record { last = None }

abbrev pub media_after : (index : ℕ) → MediaSender
media_after i = record { last = Some i }

-- and beside it the state once the packet is sent. A refusal leaves the state as it is
abbrev pub media_next : Result ℕ NoIndex → MediaSender → MediaSender
media_next (Ok i) s = media_after i
media_next (Err e) s = s

abbrev pub media_step : MediaSender → (number : ℕ) → Step MediaSender
media_step s number = record { index = next_media s.last number; next = media_next (next_media s.last number) s }

-- ---- control: the sender's first index is 0, each next one is one more, and after 2^31 packets it is SPENT. A receiver reads the index,
-- of 31 bits, from the packet: nothing is estimated and none is SPENT
abbrev pub next_control : (sent : ℕ) → Result ℕ NoIndex
next_control sent = cond (leb max_control_packets sent) (Err no_index.Spent) (Ok sent)

abbrev pub control_start : ControlSender
control_start = record { sent = 0 }

-- one more is sent
abbrev pub control_after : ControlSender → ControlSender
control_after s = record { sent = s.sent + 1 }

abbrev pub control_next : Result ℕ NoIndex → ControlSender → ControlSender
control_next (Ok i) s = control_after s
control_next (Err e) s = s

abbrev pub control_step : ControlSender → Step ControlSender
control_step s = record { index = next_control s.sent; next = control_next (next_control s.sent) s }
