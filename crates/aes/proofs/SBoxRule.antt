-- A list is the S-box's table if it has 256 entries and one computed test finds at each of them what inverse and affine step give.
-- Assumes nothing.
use mathlib.Core.List.{List}
use mathlib.Core.Path.{◌≡◌, subst, sym}
use Prim.Native.Nat.{ℕ, ◌<◌}
use lib.Dec.{T}
use lib.ListN.{length}
use Rattle.aes.specs.SBox.{s_box, SBoxTable}
use Rattle.aes.proofs.Table.{tabulates, entry_of}

pub sbox-table : (t : List ℕ) → length t ≡ 256 → T (tabulates s_box t) → SBoxTable t
sbox-table t e test = record { size = e; entry = λ b h. entry_of s_box t test b (subst (λ (n : ℕ). b < n) (sym e) h) }
