-- Numbers as bytes, the highest first (network byte order): 16 bits are 2 bytes, 32 are 4, 48 are 6, 64 are 8, 128 are 16.
-- A byte is a number below 2 ^ 8. Assumes nothing.
use Rattle.std.specs.Prelude.{ℕ, zero, suc, ◌+◌, ◌*◌, ◌/◌, ◌%◌, ◌^◌, ◌<◌, List, [], ◌∷◌, length}

-- every element is a byte
abbrev pub Bytes : List ℕ → Type 0
Bytes [] = Unit
Bytes (b ∷ bs) = (b < 2 ^ 8) × Bytes bs

-- byte k of v, counted from the lowest. (Byte 0 has a line of its own: v / 2 ^ 0 would not compute to v.)
abbrev pub byte : ℕ → ℕ → ℕ
byte zero v = v % 2 ^ 8
byte (suc k) v = v / 2 ^ (8 * suc k) % 2 ^ 8

-- the n low bytes of v, the highest first
abbrev pub to_bytes : ℕ → ℕ → List ℕ
to_bytes zero v = []
to_bytes (suc n) v = byte n v ∷ to_bytes n v

-- the number that a list of bytes spells, the highest first
abbrev pub from_bytes : List ℕ → ℕ
from_bytes [] = 0
from_bytes (b ∷ bs) = b * 2 ^ (8 * length bs) + from_bytes bs
