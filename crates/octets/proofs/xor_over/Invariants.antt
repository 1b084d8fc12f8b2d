-- The loop's invariant: the first i bytes of the XOR stand at the start of d.
use mathlib.Core.Path.{◌≡◌}
use lib.ListN.{length, take}
use Rattle.octets.specs.Buffer.{over}
use Rattle.octets.specs.Xor.{xors}
use Rattle.octets.proofs.xor_over.Given as goal

pub record Written (l : goal.Live-loop-i) : Type 0 where
  pub size : length l.d ≡ length l.initial.d
  pub front : l.d ≡ over (take l.i (xors l.a l.b)) l.initial.d

abbrev pub invariant-loop-i : goal.invariant-loop-i
invariant-loop-i l = Written l
