use mathlib.Core.Path.{refl, ap, ◌∙◌}
use Prim.Native.Nat.{◌-◌}
use native.Mathlib.Omega.{arith}
use Rattle.aes.specs.Cipher.{rounds, add_round_key}
use Rattle.aes.specs.Columns.{block}
use Rattle.aes.proofs.AesLaws.{next-round, all-rounds}
use Rattle.aes.proofs.cipher.encrypt_block.Goals as goal

pub loop-i-init : goal.loop-i-init
unfolding rounds
loop-i-init c = refl

pub loop-i-preserved : goal.loop-i-preserved
loop-i-preserved c =
    next-round c.args.keys.now.words.now (block c.added-x.result) c.loop-i.i c.loop-i.auto.i c.loop-i.invariant c.at-in-loop-i.ensures.bytes
    c.round-x.ensures

pub returns : goal.returns
returns c =
    let a = c.args in
    let w = a.keys.now.words.now in
    let i = c.loop-i.i in
    let start = c.added-x.ensures.bytes ∙ ap (add_round_key (block a.s)) c.at.ensures.bytes in
    all-rounds w (block a.s) a.keys.now.rounds i (omega (arith, a.keys.now.some))
    (c.loop-i.invariant ∙ ap (rounds w (i - 1)) start) c.at-2.ensures.bytes c.last_round.ensures
