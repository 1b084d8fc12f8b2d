use Rattle.std.proofs.Common.{ap, ◌∙◌}
use Rattle.std.proofs.lemmas.List.{take_rest}
use Rattle.srtp.specs.declared.Made.{Made}
use Rattle.srtp.specs.declared.Receiver.{Receiver}
use Rattle.desk.specs.Listening.{fresh}
use Rattle.desk.proofs.fresh_receiver.Goals as goal

pub returns : goal.returns
unfolding fresh
returns c = ap (λ (made : Made Receiver). made.context) c.set_up.ensures.is ∙ rw (take_rest c.args.key 16)
