-- Rules of functions of one byte, each by one computed test over the 256 bytes. Assumes nothing.
use mathlib.Core.Bool.{cond}
use mathlib.Core.Path.{◌≡◌}
use Prim.Native.Nat.{ℕ, ◌-◌, ◌*◌, ◌<◌, ◌≤◌}
use native.Mathlib.Omega.{arith}
use borrow.Author.Tests.{ne_eqb}
use lib.Bits.{bit_xor}
use lib.Dec.{T, ltb, eqb}
use Rattle.aes.specs.Field.{mul, inverse}
use Rattle.aes.proofs.Table.{agree, agreed}

-- `inverse` is the inverse: the product is 1, but for 0
abbrev one : ℕ → ℕ
one b = cond (eqb b 0) 0 1

inverse-test : T (agree (λ b. mul b (inverse b)) one)
unfolding mul inverse
inverse-test = tt

pub inverse-is : (b : ℕ) → 1 ≤ b → b < 256 → mul b (inverse b) ≡ 1
inverse-is b p h = simp (ne_eqb b 0 (λ e. omega arith)) at (agreed (λ b. mul b (inverse b)) one inverse-test b h)

-- the products with 2 and 3, as the code has them
abbrev double : ℕ → ℕ
double b = cond (ltb b 128) (b * 2) (bit_xor ((b - 128) * 2) 27)

double-test : T (agree double (mul 2))
unfolding mul
double-test = tt

pub times2-is : (b : ℕ) → b < 256 → double b ≡ mul 2 b
times2-is = agreed double (mul 2) double-test

triple-test : T (agree (λ b. bit_xor (mul 2 b) b) (mul 3))
unfolding mul
triple-test = tt

pub times3-is : (b : ℕ) → b < 256 → bit_xor (mul 2 b) b ≡ mul 3 b
times3-is = agreed (λ b. bit_xor (mul 2 b) b) (mul 3) triple-test
