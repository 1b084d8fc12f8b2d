use Rattle.std.proofs.Common.{ℕ, ◌+◌, ◌++◌, length, sym, ap, ◌∙◌, length-append}
use Rattle.hmac_sha1.specs.Sha1.{padding, hash_all}
use Rattle.hmac_sha1.proofs.MessageLaws.{hash-rest}
use Rattle.hmac_sha1.proofs.State.hash_after.Goals as goal

pub returns : goal.returns
returns c =
    let x = c.args in
    let s = x.self.now in
    let a = x.a.now in
    let b = x.b.now in
    c.rest_in_parts.ensures
    ∙ hash-rest s _ a b (padding (x.before + (length a + length b))) _ c.whole_blocks.ensures c.as_chunks.ensures.back
    ∙ ap (λ (n : ℕ). hash_all s ((a ++ b) ++ padding (x.before + n))) (sym (length-append a b))
