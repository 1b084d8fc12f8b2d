-- Behind each call: r is what the ring holds, s the state after the rounds so far.
use Rattle.std.proofs.Common.{refl, ap, ◌∙◌, zero-le, arith}
use Rattle.hmac_sha1.specs.declared.State.{State}
use Rattle.hmac_sha1.specs.Sha1.{schedule, sum, compress}
use Rattle.hmac_sha1.proofs.RoundLaws.{more-rounds}
use Rattle.hmac_sha1.proofs.block.compress.Goals as goal

pub returns : goal.returns
unfolding compress
returns c =
    let m = c.args.m.now in
    let h = c.args.h in
    let w = schedule m 80 in
    let r₁ = c.load_words-w.ensures in
    let s₁ = c.rounds-s.ensures m 16 (omega arith) (omega arith) r₁ in
    let r₂ = c.advance.ensures m 16 refl (omega arith) (omega arith) r₁ in
    let s₂ = more-rounds w 0 16 4 h _ _ zero-le s₁ (c.rounds-s-2.ensures m 32 (omega arith) (omega arith) r₂) in
    let s₃ = more-rounds w 0 20 12 h _ _ zero-le s₂ (c.rounds-s-3.ensures m 32 (omega arith) (omega arith) r₂) in
    let r₃ = c.advance-2.ensures m 32 refl (omega arith) (omega arith) r₂ in
    let s₄ = more-rounds w 0 32 8 h _ _ zero-le s₃ (c.rounds-s-4.ensures m 48 (omega arith) (omega arith) r₃) in
    let s₅ = more-rounds w 0 40 8 h _ _ zero-le s₄ (c.rounds-s-5.ensures m 48 (omega arith) (omega arith) r₃) in
    let r₄ = c.advance-3.ensures m 48 refl (omega arith) (omega arith) r₃ in
    let s₆ = more-rounds w 0 48 12 h _ _ zero-le s₅ (c.rounds-s-6.ensures m 64 (omega arith) (omega arith) r₄) in
    let s₇ = more-rounds w 0 60 4 h _ _ zero-le s₆ (c.rounds-s-7.ensures m 64 (omega arith) (omega arith) r₄) in
    let r₅ = c.advance-4.ensures m 64 refl (omega arith) (omega arith) r₄ in
    let s₈ = more-rounds w 0 64 16 h _ _ zero-le s₇ (c.rounds-s-8.ensures m 80 (omega arith) (omega arith) r₅) in
    c.sum.ensures ∙ ap (λ (s : State). sum s h) s₈
