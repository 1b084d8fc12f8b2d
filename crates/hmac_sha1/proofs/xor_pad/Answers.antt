use Rattle.std.proofs.Common.{◌≡◌, length, replicate, refl, ◌∙◌, rules}
use Rattle.hmac_sha1.proofs.HmacLaws.{pad-over}
use Rattle.hmac_sha1.proofs.xor_pad.Goals as goal

pub returns : goal.returns
returns c =
    let k = c.args.k in
    let e : length k ≡ 64 = search rules in
    c.xor_over.ensures ∙ pad-over k (replicate 64 c.args.v) (replicate 64 0) e refl refl
