-- Examples of FIPS 197 that the definitions give by computation. (The program `vectors` runs the code, which equals the definitions, on
-- the rest.) Assumes nothing.
use mathlib.Core.Path.{◌≡◌, refl}
use Rattle.octets.specs.BigEndian.{to_bytes}
use Rattle.aes.specs.Aes.{aes}
use Rattle.aes.specs.Cipher.{cipher}
use Rattle.aes.specs.Field.{mul}
use Rattle.aes.specs.KeyExpansion.{key_expansion}
use Rattle.aes.specs.SBox.{s_box}

-- 4.2
product : mul 0x57 0x13 ≡ 0xfe
unfolding mul
product = refl

-- 5.1.1
entry : s_box 0x53 ≡ 0xed
unfolding s_box
entry = refl

-- Appendix B
appendix-b : aes 4 (to_bytes 16 0x2b7e151628aed2a6abf7158809cf4f3c) (to_bytes 16 0x3243f6a8885a308d313198a2e0370734) ≡ to_bytes 16 0x3925841d02dc09fbdc118597196a0b32
unfolding aes cipher key_expansion s_box mul
appendix-b = refl
