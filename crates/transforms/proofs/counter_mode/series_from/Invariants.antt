-- The loop's invariant: the first at bytes of the segment, counted from its byte start, are XORed into the start of out.
use mathlib.Core.Path.{◌≡◌}
use Prim.Native.Nat.{◌-◌, ◌≤◌}
use lib.ListN.{length}
use Rattle.aes.specs.Columns.{block}
use Rattle.octets.specs.BigEndian.{from_bytes}
use Rattle.transforms.specs.Steps.{segment, xored_at}
use Rattle.transforms.proofs.counter_mode.series_from.Given as goal

abbrev pub invariant-loop-at : goal.invariant-loop-at
invariant-loop-at l = record {
  within : l.at ≤ length l.out;
  size : length l.out ≡ length l.initial.out;
  part : l.out ≡ xored_at 0 l.at (segment l.series.keys.words.now (from_bytes (block l.series.first)) l.start (length l.initial.out)) l.initial.out;
}

abbrev pub decreases-loop-at : goal.decreases-loop-at
decreases-loop-at l = length l.out - l.at
