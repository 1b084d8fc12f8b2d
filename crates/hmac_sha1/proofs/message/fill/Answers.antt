use Rattle.hmac_sha1.proofs.MessageLaws.{filled-parts}
use Rattle.hmac_sha1.proofs.message.fill.Goals as goal

pub returns : goal.returns
returns c =
    let x = c.args in
    filled-parts x.a.now x.b.now x.block.now _ _ c.copy_over.ensures c.copy_over-2.ensures
