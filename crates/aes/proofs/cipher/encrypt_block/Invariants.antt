-- The loop's invariant: the state has gone through rounds 1 to i - 1.
use mathlib.Core.Path.{◌≡◌}
use Prim.Native.Nat.{◌-◌}
use Rattle.aes.specs.Cipher.{rounds}
use Rattle.aes.specs.Columns.{block}
use Rattle.aes.proofs.cipher.encrypt_block.Given as goal

abbrev pub invariant-loop-i : goal.invariant-loop-i
invariant-loop-i l = block l.x ≡ rounds l.keys.words.now (l.i - 1) (block l.initial.x)
