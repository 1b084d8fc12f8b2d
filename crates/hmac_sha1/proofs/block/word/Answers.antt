use Rattle.std.proofs.Common.{◌≡◌, ◌*◌, length, arith, rules}
use Rattle.hmac_sha1.proofs.WordLaws.{word-spelled}
use Rattle.hmac_sha1.proofs.block.word.Goals as goal

pub returns : goal.returns
returns c =
    let m = c.args.m.now in
    let l : length m ≡ 64 = search rules in
    word-spelled m (4 * c.args.t) (omega arith) (search rules) (search rules) (search rules) (search rules)
