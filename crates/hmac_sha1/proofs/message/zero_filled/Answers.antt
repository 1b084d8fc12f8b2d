use Rattle.std.proofs.Common.{◌∙◌}
use Rattle.hmac_sha1.proofs.MessageLaws.{filled-zeros}
use Rattle.hmac_sha1.proofs.message.zero_filled.Goals as goal

pub returns : goal.returns
returns c = c.copy_over.ensures ∙ filled-zeros c.args.m.now
