-- FIPS 197, section 5, Table 3: AES-128, AES-192 and AES-256 are the cipher with nk 4, 6 and 8 and nr = nk + 6 rounds, on the
-- expanded key. Assumes nothing.
use Rattle.std.specs.Prelude.{ℕ, ◌+◌, List}
use Rattle.aes.specs.Cipher.{cipher}
use Rattle.aes.specs.KeyExpansion.{key_expansion}

abbrev pub round_count : ℕ → ℕ
round_count nk = nk + 6

unfoldable pub aes : ℕ → List ℕ → List ℕ → List ℕ
aes nk key s = cipher (key_expansion nk key) (round_count nk) s
