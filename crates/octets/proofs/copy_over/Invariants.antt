-- The loop's invariant: the first i bytes of a stand at the start of d.
use mathlib.Core.Path.{◌≡◌}
use lib.ListN.{length, take}
use Rattle.octets.specs.Buffer.{over}
use Rattle.octets.proofs.copy_over.Given as goal

pub record Copied (l : goal.Live-loop-i) : Type 0 where
  pub size : length l.d ≡ length l.initial.d
  pub front : l.d ≡ over (take l.i l.a) l.initial.d

abbrev pub invariant-loop-i : goal.invariant-loop-i
invariant-loop-i l = Copied l
