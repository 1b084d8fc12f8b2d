use native.Mathlib.Omega.{arith}
use Rattle.aes.specs.Columns.{block}
use Rattle.aes_tables.proofs.RoundLaws.{next-rounds, all-behind}
use Rattle.aes_tables.proofs.cipher.finish.Goals as goal

pub loop-i-preserved : goal.loop-i-preserved
loop-i-preserved g c =
    let l = c.loop-i in
    let k = c.at in
    λ zs q. next-rounds c.args.keys.now.words.now l.i (block k.result) zs (omega arith) k.ensures.bytes (l.invariant zs q) c.round.ensures

pub returns : goal.returns
returns g c =
    let keys = c.args.keys.now in
    let l = c.loop-i in
    let k = c.at-2 in
    λ zs q. all-behind keys.words.now keys.rounds l.i (block k.result) zs (omega arith) k.ensures.bytes (l.invariant zs q) c.last_round.ensures
