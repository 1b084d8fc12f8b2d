use Rattle.hmac_sha1.specs.Sha1.{kt}
use Rattle.hmac_sha1.proofs.RoundLaws.{kt-far}
use Rattle.hmac_sha1.proofs.block.round_constant.Goals as goal

pub returns-in-0 : goal.returns-in-0
unfolding kt
returns-in-0 c = rw c.in-0.is

pub returns-in-1 : goal.returns-in-1
unfolding kt
returns-in-1 c = rw c.in-1.is

pub returns-in-2 : goal.returns-in-2
unfolding kt
returns-in-2 c = rw c.in-2.is

pub returns-in_default : goal.returns-in_default
returns-in_default c = search kt-far
