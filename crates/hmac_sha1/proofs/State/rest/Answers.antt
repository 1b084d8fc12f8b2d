use Rattle.std.proofs.Common.{ℕ, List, [], ◌++◌, ap, ◌∙◌, append-nil}
use Rattle.hmac_sha1.specs.Sha1.{padding, hash_all}
use Rattle.hmac_sha1.proofs.MessageLaws.{hash-rest}
use Rattle.hmac_sha1.proofs.State.rest.Goals as goal

pub returns : goal.returns
returns c =
    let s = c.args.self.now in
    let m = c.args.m.now in
    let q = padding c.args.n in
    c.last_blocks.ensures ∙ hash-rest s _ m [] q _ c.whole_blocks.ensures c.as_chunks.ensures.back ∙ ap (λ (l : List ℕ). hash_all s (l ++ q)) (append-nil m)
