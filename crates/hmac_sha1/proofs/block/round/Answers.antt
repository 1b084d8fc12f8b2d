use Rattle.std.proofs.Common.{◌*◌}
use Rattle.hmac_sha1.specs.Sha1.{rotl, ft, kt, round}
use Rattle.hmac_sha1.proofs.WordLaws.{sum-order}
use Rattle.hmac_sha1.proofs.block.round.Goals as goal

pub returns : goal.returns
unfolding round
returns c =
    let x = c.args in
    let s = x.s in
    let t = 20 * x.q in
    let o = sum-order (rotl 5 s.a) (ft t s.b s.c s.d) s.e (kt t) x.w in
    cc
