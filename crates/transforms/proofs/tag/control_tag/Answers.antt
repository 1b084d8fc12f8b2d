use mathlib.Core.List.{append-nil}
use mathlib.Core.Path.{sym, ap, ◌∙◌}
use Rattle.hmac_sha1.specs.Hmac.{hmac_with}
use Rattle.transforms.specs.Tag.{control_tag}
use Rattle.transforms.proofs.TagLaws.{whole-tag}
use Rattle.transforms.proofs.tag.control_tag.Goals as goal

pub returns : goal.returns
unfolding control_tag
returns c =
    let x = c.args in
    c.hmac.ensures ∙ ap (hmac_with x.keys.tag) (append-nil x.authenticated.now) ∙ sym (whole-tag x.keys x.authenticated.now)
