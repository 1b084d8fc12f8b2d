use mathlib.Core.Path.{refl}
use Rattle.aes.specs.SBox.{s_box}
use Rattle.aes.proofs.SBoxRule.{sbox-table}
use Rattle.aes.proofs.substitution.sbox.Goals as goal

pub returns : goal.returns
unfolding s_box
returns c = sbox-table _ refl tt
