use Prim.Native.Nat.{◌+◌, ◌-◌, ◌/◌}
use native.Mathlib.Omega.{arith}
use Rattle.aes.specs.Columns.{block}
use Rattle.octets.specs.BigEndian.{from_bytes}
use Rattle.transforms.proofs.CounterLaws.{one-block, two-blocks}
use Rattle.transforms.proofs.SegmentLaws.{block-part, pair-part}
use Rattle.transforms.proofs.counter_mode.blocks_in.Goals as goal

pub returns-then-from-out-le16-clause-part : goal.returns-then-from-out-le16-clause-part
returns-then-from-out-le16-clause-part c =
    let x = c.args in
    let s = x.series.now in
    let r = c.block_in in
    let k = c.blocks-then-from-out-le16 in
    let j = (x.start + x.at) / 16 in
    let b = one-block s.keys.words.now s.first s.keys.rounds k.result _ (omega arith) j (omega (arith, s.in_word)) k.ensures in
    block-part s.keys.words.now (from_bytes (block s.first)) x.start x.out.now _ _ x.at (r.result - x.at) (omega arith) (omega arith) b r.ensures.part

pub returns-clause-part : goal.returns-clause-part
returns-clause-part c =
    let x = c.args in
    let s = x.series.now in
    let r = c.pair_in in
    let k = c.blocks-2 in
    let j = (x.start + x.at) / 16 in
    let b = two-blocks s.keys.words.now s.first s.keys.rounds k.result _ (omega arith) j (omega (arith, s.in_word)) k.ensures in
    pair-part s.keys.words.now (from_bytes (block s.first)) x.start x.out.now _ _ _ x.at (r.result - x.at) (omega arith) (omega arith) b.0 b.1 r.ensures.part
