-- Where the arms meet, the block still to come and the hash value before it are those of a message with one block left or with two.
use Rattle.std.proofs.Common.{◌≡◌, ◌+◌, ◌%◌, ◌<◌, ◌≤◌, ◌++◌, length, sym, ◌∙◌, arith, length-append}
use Rattle.hmac_sha1.proofs.MessageLaws.{stored-end, hash-last, hash-last-two}
use Rattle.hmac_sha1.proofs.State.last_blocks.Goals as goal
use Rattle.hmac_sha1.proofs.State.last_blocks.Goals.{then-used-ge56, else-used-ge56}

pub returns : goal.returns
returns c =
    let x = c.args in
    let s = x.self.now in
    let m = x.a.now ++ x.b.now in
    let r : length m ≡ x.n % 64 = omega (arith, length-append x.a.now x.b.now) in
    let f = stored-end m _ (length x.a.now + length x.b.now) c.fill.ensures (sym (length-append x.a.now x.b.now)) (omega arith) in
    let g = c.set_length.ensures in
    elim c.if-used-ge56.branch [
      | then-used-ge56 w ↦
          let l : 56 ≤ length m = omega (arith, length-append x.a.now x.b.now) in
          c.compress-2.ensures ∙ rw (w.self-is, w.compress.ensures, g, w.block-is, f) (hash-last-two s m x.n r l)
      | else-used-ge56 w ↦
          let l : length m < 56 = omega (arith, length-append x.a.now x.b.now) in
          c.compress-2.ensures ∙ rw (w.self-is, g, w.block-is, f) (hash-last s m x.n r l)
    ]
