-- The loop's invariant: the states before i are those of the first i blocks behind round 2.
use mathlib.Core.Path.{◌≡◌}
use Prim.Native.Nat.{ℕ, ◌+◌, ◌<◌}
use lib.Bits.{bit_xor}
use lib.ListN.{length, get_or}
use Rattle.aes.specs.Columns.{state}
use Rattle.aes_tables.specs.Series.{after_two}
use Rattle.aes_tables.proofs.series.Series.blocks.Given as goal

abbrev pub invariant-loop-i : goal.invariant-loop-i
invariant-loop-i g l =
    let s = l.self in
    record {
      size : length l.states ≡ g.row.N;
      filled : (k : ℕ) → k < l.i
          → get_or l.states k (state 0 0 0 0) ≡ after_two s.tables.words.now s.front (bit_xor (s.first.c3 + (l.j + k)) (get_or s.keys.words.now 3 0));
    }
