use mathlib.Core.List.{List, ◌++◌}
use mathlib.Core.Path.{sym, ap, ◌∙◌}
use Prim.Native.Nat.{ℕ}
use Rattle.octets.specs.BigEndian.{to_bytes}
use Rattle.hmac_sha1.specs.Hmac.{hmac_with}
use Rattle.transforms.specs.Tag.{rollover_counter, media_tag}
use Rattle.transforms.proofs.TagLaws.{whole-tag}
use Rattle.transforms.proofs.tag.mac.Goals as goal

pub returns : goal.returns
unfolding media_tag
returns c =
    let x = c.args in
    c.hmac.ensures
    ∙ ap (λ (l : List ℕ). hmac_with x.keys.tag (x.authenticated.now ++ l)) c.to_be_bytes.ensures
    ∙ sym (whole-tag x.keys (x.authenticated.now ++ to_bytes 4 (rollover_counter x.index)))
