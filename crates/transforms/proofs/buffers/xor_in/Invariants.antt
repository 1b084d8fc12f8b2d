-- The loop's invariant: the first i bytes of the XOR stand at the start of d, and the rest is as it was.
use mathlib.Core.Path.{◌≡◌}
use lib.ListN.{take}
use Rattle.octets.specs.Buffer.{over}
use Rattle.octets.specs.Xor.{xors}
use Rattle.transforms.proofs.buffers.xor_in.Given as goal

abbrev pub invariant-loop-i : goal.invariant-loop-i
invariant-loop-i l = l.d ≡ over (take l.i (xors l.initial.d l.s)) l.initial.d
