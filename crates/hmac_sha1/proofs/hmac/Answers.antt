use Rattle.std.proofs.Common.{◌≡◌, length, ◌∙◌, rules}
use Rattle.hmac_sha1.specs.Hmac.{hmac_with}
use Rattle.hmac_sha1.specs.Parts.{sha1_after}
use Rattle.hmac_sha1.proofs.MessageLaws.{digest-alone, digest-after}
use Rattle.hmac_sha1.proofs.hmac.Goals as goal

pub returns : goal.returns
unfolding hmac_with sha1_after
returns c =
    let x = c.args in
    let l : length x.d.now ≡ 20 = search rules in
    digest-alone _ _ _ l c.put_digest.ensures ∙ rw (c.hash_digest.ensures, c.hash_after.ensures) (digest-after x.key.outer _)
