-- The loop's invariant: the first i words of w are those of the key.
use mathlib.Core.Path.{◌≡◌}
use lib.ListN.{take}
use Rattle.aes.specs.KeyExpansion.{key_words}
use Rattle.aes.proofs.expansion.load_key.Given as goal

abbrev pub invariant-loop-i : goal.invariant-loop-i
invariant-loop-i l = take l.i l.w ≡ key_words l.i l.key
