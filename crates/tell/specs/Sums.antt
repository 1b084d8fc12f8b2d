-- How many answers there were, and of which kind. Assumes nothing.
use Rattle.std.specs.Prelude.{ℕ, ◌+◌, ◌-◌, ◌^◌, cond, eqb}
use Rattle.tell.specs.declared.sum.Sum.{Sum}
use Rattle.tell.specs.declared.reading.Told.{Told}
use Rattle.tell.specs.declared.reading.Told.TheVariants.{Ready, Sent, Accepted, Refused, Misfit, Unknown}

abbrev pub none : Sum
none = record { answers = 0; sent = 0; accepted = 0; refused = 0 }

-- a count stays at its top
abbrev pub one_more : ℕ → ℕ
one_more n = cond (eqb n (2 ^ 64 - 1)) n (n + 1)

-- one answer more, and nothing else
abbrev pub answered : Sum → Sum
answered s = record { answers = one_more s.answers; sent = s.sent; accepted = s.accepted; refused = s.refused }

unfoldable pub counted : Sum → Told → Sum
counted s (Sent n i) = record { answers = one_more s.answers; sent = one_more s.sent; accepted = s.accepted; refused = s.refused }
counted s (Accepted n i) = record { answers = one_more s.answers; sent = s.sent; accepted = one_more s.accepted; refused = s.refused }
counted s (Refused r) = record { answers = one_more s.answers; sent = s.sent; accepted = s.accepted; refused = one_more s.refused }
counted s Ready = answered s
counted s Misfit = answered s
counted s Unknown = answered s
