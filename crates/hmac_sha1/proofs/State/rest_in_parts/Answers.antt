use Rattle.std.proofs.Common.{◌-◌, length, refl, ◌∙◌, arith}
use Rattle.hmac_sha1.specs.Sha1.{padding}
use Rattle.hmac_sha1.proofs.MessageLaws.{filled-zeros, hash-joint}
use Rattle.hmac_sha1.proofs.State.rest_in_parts.Goals as goal

pub returns : goal.returns
returns c =
    let x = c.args in
    c.rest.ensures
    ∙ hash-joint x.self.now _ x.a.now x.b.now (padding x.n) _ (64 - length x.a.now) refl (omega arith) (omega arith) (c.fill.ensures ∙ filled-zeros _) c.compress.ensures
