use Rattle.aes.proofs.StateLaws.{added-to}
use Rattle.aes.proofs.State.added.Goals as goal

pub returns-clause-bytes : goal.returns-clause-bytes
returns-clause-bytes c = added-to c.args.self c.args.key
