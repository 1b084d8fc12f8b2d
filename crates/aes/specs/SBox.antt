-- FIPS 197, section 5.1.1: the rule of the S-box, inverse and then affine step, and what a table of it is. Assumes nothing.
use Rattle.std.specs.Prelude.{ℕ, zero, suc, ◌+◌, ◌*◌, ◌/◌, ◌%◌, ◌^◌, ◌<◌, ◌≡◌, List, length, get_or}
use Rattle.std.specs.Int.Bits.{bit_xor}
use Rattle.aes.specs.Field.{inverse}

-- bit i mod 8 of a byte
unfoldable pub bit : ℕ → ℕ → ℕ
bit b i = b / 2 ^ (i % 8) % 2

-- bit i of the affine step of b, with the constant 0x63
unfoldable pub affine_bit : ℕ → ℕ → ℕ
unfolding bit
affine_bit b i = bit_xor (bit b i) (bit_xor (bit b (i + 4)) (bit_xor (bit b (i + 5)) (bit_xor (bit b (i + 6)) (bit_xor (bit b (i + 7)) (bit 0x63 i)))))

-- the n low bits of the affine step
unfoldable pub affine_bits : ℕ → ℕ → ℕ
unfolding affine_bit
affine_bits zero b = 0
affine_bits (suc n) b = affine_bits n b + affine_bit b n * 2 ^ n

unfoldable pub affine : ℕ → ℕ
unfolding affine_bits
affine b = affine_bits 8 b

-- S-BOX of a byte
unfoldable pub s_box : ℕ → ℕ
unfolding affine inverse
s_box b = affine (inverse b)

-- the table of the S-box: at each byte what the rule gives
pub record SBoxTable (t : List ℕ) : Type 0 where
  pub size : length t ≡ 256
  pub entry : (b : ℕ) → b < 256 → get_or t b 0 ≡ s_box b
