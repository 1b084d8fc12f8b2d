use Rattle.std.proofs.Common.{◌++◌, refl, ap, ◌∙◌}
use Rattle.hmac_sha1.specs.Sha1.{digest_of}
use Rattle.hmac_sha1.specs.Parts.{sha1_after}
use Rattle.hmac_sha1.proofs.MessageLaws.{digest-alone}
use Rattle.hmac_sha1.proofs.DigestLaws.{sha1-whole}
use Rattle.hmac_sha1.proofs.digest.Goals as goal

pub returns : goal.returns
unfolding sha1_after
returns c =
    digest-alone _ _ _ refl c.put_digest.ensures ∙ ap digest_of c.hash_after.ensures ∙ sha1-whole (c.args.a.now ++ c.args.b.now)
