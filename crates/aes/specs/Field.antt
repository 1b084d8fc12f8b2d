-- FIPS 197, section 4: the field GF(2^8). An element is a byte, a number below 2 ^ 8; bit i is the coefficient of x^i.
-- Addition (4.1) is bit_xor. Assumes nothing.
use Rattle.std.specs.Prelude.{ℕ, zero, suc, ◌*◌, ◌/◌, ◌%◌, ◌^◌, cond, ltb, eqb}
use Rattle.std.specs.Int.Bits.{bit_xor}

-- 4.2, XTIMES: the product with x, modulo x^8 + x^4 + x^3 + x + 1
unfoldable pub x_times : ℕ → ℕ
x_times b = cond (ltb b 0x80) (b * 2) (bit_xor (b * 2 % 2 ^ 8) 0x1b)

-- 4.2: the product of b and the n low bits of c: the sum of b, b • x, b • x^2, .. over the bits of c that are 1
unfoldable pub mul_bits : ℕ → ℕ → ℕ → ℕ
unfolding x_times
mul_bits zero b c = 0
mul_bits (suc n) b c = bit_xor (cond (eqb (c % 2) 1) b 0) (mul_bits n (x_times b) (c / 2))

-- 4.2: b • c
unfoldable pub mul : ℕ → ℕ → ℕ
unfolding mul_bits
mul b c = mul_bits 8 b c

-- b to the power 2 + 4 + .. + 2 ^ n
unfoldable pub powers : ℕ → ℕ → ℕ
unfolding mul
powers zero b = 1
powers (suc n) b = mul (mul b b) (powers n (mul b b))

-- 4.4: the multiplicative inverse, b to the power 254. It takes 0 to 0.
unfoldable pub inverse : ℕ → ℕ
unfolding powers
inverse b = powers 7 b
