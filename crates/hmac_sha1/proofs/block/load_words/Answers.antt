use Rattle.std.proofs.Common.{◌≡◌, ◌%◌, arith}
use Rattle.hmac_sha1.proofs.ScheduleLaws.{ring-load}
use Rattle.hmac_sha1.proofs.block.load_words.Goals as goal

pub loop-t-preserved : goal.loop-t-preserved
loop-t-preserved c =
    let l = c.loop-t in
    let p : l.t ≡ l.t % 16 = omega arith in
    ring-load c.args.m.now l.w l.t l.t c.word.result p l.invariant (omega arith) c.word.ensures
