use mathlib.Core.List.{List, [], ◌∷◌}
use Prim.Native.Nat.{ℕ}
use Rattle.aes.specs.KeyExpansion.{rcon_byte}
use Rattle.aes.proofs.Table.{entry_of}
use Rattle.aes.proofs.expansion.rcon.Goals as goal

constants : List ℕ
constants = 0x01 ∷ 0x02 ∷ 0x04 ∷ 0x08 ∷ 0x10 ∷ 0x20 ∷ 0x40 ∷ 0x80 ∷ 0x1b ∷ 0x36 ∷ []

pub returns : goal.returns
unfolding rcon_byte constants
returns c = entry_of rcon_byte constants tt c.args.i c.requires
