use Rattle.std.proofs.Common.{◌∙◌, ap, arith}
use Rattle.hmac_sha1.specs.Hmac.{key_state}
use Rattle.hmac_sha1.proofs.HmacLaws.{key-short, key-long}
use Rattle.hmac_sha1.proofs.hmac_key.Goals as goal

pub returns-then-key-le64 : goal.returns-then-key-le64
returns-then-key-le64 c = c.key_state.ensures ∙ ap key_state c.zero_filled-k.ensures ∙ key-short c.args.key.now (omega arith)

pub returns : goal.returns
returns c = c.key_state-2.ensures ∙ ap key_state c.zero_filled-k-2.ensures ∙ key-long c.args.key.now _ (omega arith) c.digest-d.ensures
