use Rattle.std.proofs.Common.{◌≡◌, ◌+◌, ◌%◌, add_assoc, arith}
use Rattle.hmac_sha1.proofs.ScheduleLaws.{ring-mixed}
use Rattle.hmac_sha1.proofs.block.advance.Goals as goal

pub loop-i-preserved : goal.loop-i-preserved
loop-i-preserved c =
    let l = c.loop-i in
    let i = l.i in
    λ m t a b d r.
    let p : i ≡ (t + i) % 16 = omega arith in
    rw (← add_assoc) (ring-mixed m l.w (t + i) i c.mixed.result p (l.invariant m t a b d r) (omega arith) (omega arith) c.mixed.ensures)

pub returns : goal.returns
returns c =
    let l = c.loop-i in
    let e : l.i ≡ 16 = omega arith in
    λ m t a b d r. rw e at (l.invariant m t a b d r)
