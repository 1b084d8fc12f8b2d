use Rattle.transforms.proofs.DerivationLaws.{keys-together}
use Rattle.transforms.proofs.SessionKeys.derive.Goals as goal

pub returns : goal.returns
returns c =
    let x = c.args in
    let w = c.expand_128-w.ensures in
    keys-together x.label x.key x.salt _ _ _ _ _ (c.derived.ensures x.key w)
    (c.derived-2.ensures x.key w) (c.derived-3.ensures x.key w)
    c.expand_128-round.ensures c.hmac_key-tag.ensures
