use native.Mathlib.Omega.{arith}
use Rattle.aes.specs.Columns.{block}
use Rattle.octets.specs.BigEndian.{from_bytes}
use Rattle.transforms.proofs.SegmentLaws.{series-part}
use Rattle.transforms.proofs.counter_mode.Keystream.series_in.Goals as goal

pub returns-clause-part : goal.returns-clause-part
returns-clause-part c =
    let x = c.args in
    let s = x.self.now in
    let n = c.min in
    let k = c.counter-counter in
    series-part s.words.now (from_bytes (block s.first)) x.start x.out.now _ k.result.c0 k.result.c1 k.result.c2 k.result.c3 x.at
    n.result (omega arith) k.ensures.bytes n.ensures (simp (c.new-series.ensures.words, c.new-series.ensures.first) at c.series_from.ensures)
