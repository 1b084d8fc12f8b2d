use Rattle.hmac_sha1.specs.Hmac.{key_state}
use Rattle.hmac_sha1.proofs.key_state.Goals as goal

pub returns : goal.returns
unfolding key_state
returns c = cc
