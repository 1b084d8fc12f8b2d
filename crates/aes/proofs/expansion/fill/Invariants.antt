-- The loop's invariant: the first i words of w are those of the expansion so far.
use mathlib.Core.Path.{◌≡◌}
use Prim.Native.Nat.{◌-◌}
use lib.ListN.{take}
use Rattle.aes.specs.KeyExpansion.{expand}
use Rattle.aes.proofs.expansion.fill.Given as goal

abbrev pub invariant-loop-i : goal.invariant-loop-i
invariant-loop-i l = take l.i l.w ≡ expand l.nk (l.i - l.nk) (take l.nk l.initial.w)
