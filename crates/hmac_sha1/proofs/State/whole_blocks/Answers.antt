use Rattle.std.proofs.Common.{◌∙◌, ap, arith, rules}
use Rattle.hmac_sha1.specs.Sha1.{hash_value, hash_all}
use Rattle.hmac_sha1.proofs.MessageLaws.{next-chunk}
use Rattle.hmac_sha1.proofs.State.whole_blocks.Goals as goal

pub loop-block-init : goal.loop-block-init
unfolding hash_value
loop-block-init c = search rules

pub loop-block-preserved : goal.loop-block-preserved
loop-block-preserved c =
    let l = c.loop-block in
    let a = c.as_chunks.ensures in
    c.compress.ensures ∙ next-chunk c.args.self.now l.self c.args.m.now _ _ l.block-index l.invariant a.front (omega arith)

pub returns : goal.returns
unfolding hash_all
returns c =
    let l = c.loop-block in
    let a = c.as_chunks.ensures in
    l.invariant ∙ ap (hash_value c.args.self.now c.args.m.now) (omega arith)
