use Rattle.std.proofs.Common.{refl, ◌∙◌, add-zero, lit<}
use Rattle.hmac_sha1.specs.Sha1.{rounds}
use Rattle.hmac_sha1.proofs.RoundLaws.{ring-round}
use Rattle.hmac_sha1.proofs.block.four_rounds.Goals as goal

pub returns : goal.returns
unfolding rounds
returns c =
    λ m n h l r.
    let x = c.args in
    let p = c.requires in
    let next = ring-round m x.w.now n x.q x.t x.s r p.0 p.1 p.2 h l in
    let s₁ = c.round-s1.ensures ∙ (rw add-zero at (next 0 x.s (lit< tt) refl)) in
    let s₂ = c.round-s2.ensures ∙ next 1 _ (lit< tt) s₁ in
    let s₃ = c.round-s3.ensures ∙ next 2 _ (lit< tt) s₂ in
    c.round.ensures ∙ next 3 _ (lit< tt) s₃
