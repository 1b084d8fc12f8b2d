use Rattle.std.proofs.Common.{ap, ◌∙◌}
use Rattle.hmac_sha1.specs.Sha1.{compress}
use Rattle.hmac_sha1.proofs.MessageLaws.{digest-padded, digest-hashed}
use Rattle.hmac_sha1.proofs.State.hash_digest.Goals as goal

pub returns : goal.returns
returns c =
    let h = c.args.self.now in
    let s = c.args.inner.now in
    c.compress.ensures ∙ ap (compress h) (digest-padded s _ _ c.put_digest.ensures c.set_length.ensures) ∙ digest-hashed h s
