use native.Mathlib.Omega.{arith}
use borrow.Author.Rules.{rules}
use lib.ListN.{length}
use Rattle.aes.specs.Columns.{block}
use Rattle.octets.specs.BigEndian.{from_bytes}
use Rattle.transforms.specs.Steps.{segment}
use Rattle.transforms.proofs.XoredLaws.{xored-none}
use Rattle.transforms.proofs.SegmentLaws.{next-part, all-parts}
use Rattle.transforms.proofs.counter_mode.Keystream.xor_in.Goals as goal

pub loop-at-init : goal.loop-at-init
loop-at-init c =
    let x = c.args in
    let s = x.self.now in
    record {
      within = search rules;
      size = search rules;
      part = xored-none (segment s.words.now (from_bytes (block s.first)) x.start (length x.out.now)) x.out.now;
    }

pub loop-at-preserved : goal.loop-at-preserved
loop-at-preserved c =
    let l = c.loop-at in
    let x = c.args in
    let s = x.self.now in
    let b = c.series_in-at in
    record {
      within = search rules;
      size = search rules;
      part = next-part s.words.now (from_bytes (block s.first)) x.start x.out.now l.out _ l.at b.result (omega arith) (omega arith) l.invariant.size
          l.invariant.part b.ensures.part;
    }

pub returns : goal.returns
returns c =
    let l = c.loop-at in
    let x = c.args in
    let s = x.self.now in
    all-parts s.words.now (from_bytes (block s.first)) x.start x.out.now l.out l.at (omega arith) l.invariant.part
