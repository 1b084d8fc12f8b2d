use Rattle.std.proofs.Common.{◌^◌, ◌<◌, rules}
use Rattle.hmac_sha1.proofs.WordLaws.{short-is}
use Rattle.hmac_sha1.proofs.block.ch.Goals as goal

pub returns : goal.returns
returns c =
    let a = c.args in
    let h : a.x < 2 ^ 32 = search rules in
    let i : a.y < 2 ^ 32 = search rules in
    let j : a.z < 2 ^ 32 = search rules in
    short-is 32 a.x a.y a.z h i j
