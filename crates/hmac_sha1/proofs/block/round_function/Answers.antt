use Rattle.std.proofs.Common.{◌∙◌}
use Rattle.hmac_sha1.specs.Sha1.{ft}
use Rattle.hmac_sha1.proofs.RoundLaws.{ft-far}
use Rattle.hmac_sha1.proofs.block.round_function.Goals as goal

pub returns-in-0 : goal.returns-in-0
unfolding ft
returns-in-0 c = c.ch.ensures ∙ rw c.in-0.is

pub returns-in-1 : goal.returns-in-1
unfolding ft
returns-in-1 c = c.parity.ensures ∙ rw c.in-1.is

pub returns-in-2 : goal.returns-in-2
unfolding ft
returns-in-2 c = c.maj.ensures ∙ rw c.in-2.is

pub returns-in_default : goal.returns-in_default
returns-in_default c = c.parity-in_default.ensures ∙ search ft-far
