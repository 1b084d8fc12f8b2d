-- The loop's invariant: what has gone through rounds 1 to from - 1 has gone through rounds 1 to i - 1.
use mathlib.Core.List.{List, map}
use mathlib.Core.Path.{◌≡◌}
use Prim.Native.Nat.{ℕ, ◌-◌}
use Rattle.aes.specs.Cipher.{rounds}
use Rattle.aes.specs.Columns.{block}
use Rattle.aes_tables.proofs.cipher.finish.Given as goal

abbrev pub invariant-loop-i : goal.invariant-loop-i
invariant-loop-i g l =
    let w = l.keys.words.now in
    (zs : List (List ℕ)) → map block l.initial.states ≡ map (rounds w (l.from - 1)) zs → map block l.states ≡ map (rounds w (l.i - 1)) zs
