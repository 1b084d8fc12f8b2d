use mathlib.Core.Path.{ap, ◌∙◌}
use Prim.Native.Nat.{ℕ}
use borrow.Author.Rules.{rules}
use lib.Bits.{bit_xor}
use Rattle.aes.proofs.ByteTests.{times3-is}
use Rattle.aes.proofs.cipher.times3.Goals as goal

pub returns : goal.returns
returns c = ap (λ (n : ℕ). bit_xor n c.args.b) c.times2.ensures ∙ times3-is c.args.b (search rules)
