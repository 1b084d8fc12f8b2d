-- FIPS 197, section 5.1: the cipher on a state, given the words of the expanded key. A state is a list of 16 bytes: s[r, c], in row r
-- and column c, stands at r + 4 * c (3.4). A word is a number below 2 ^ 32, its first byte the highest (3.5). Assumes nothing.
use Rattle.std.specs.Prelude.{ℕ, zero, suc, ◌+◌, ◌-◌, ◌*◌, ◌%◌, List, [], ◌∷◌, ◌++◌, map, get_or}
use Rattle.std.specs.Int.Bits.{bit_xor}
use Rattle.octets.specs.BigEndian.{to_bytes}
use Rattle.octets.specs.Xor.{xors}
use Rattle.aes.specs.Field.{mul}
use Rattle.aes.specs.SBox.{s_box}

-- s[r, c]
abbrev pub at : List ℕ → ℕ → ℕ → ℕ
at s r c = get_or s (r + 4 * c) 0

-- the state with these four columns
abbrev pub columns : (ℕ → List ℕ) → List ℕ
columns f = f 0 ++ f 1 ++ f 2 ++ f 3

-- 5.1.1
abbrev pub sub_bytes : List ℕ → List ℕ
sub_bytes s = map s_box s

-- 5.1.2: row r, r places to the left
abbrev pub shift_rows : List ℕ → List ℕ
shift_rows s = columns (λ c. at s 0 c ∷ at s 1 ((c + 1) % 4) ∷ at s 2 ((c + 2) % 4) ∷ at s 3 ((c + 3) % 4) ∷ [])

-- 5.1.3: one column
abbrev pub mix_column : ℕ → ℕ → ℕ → ℕ → List ℕ
mix_column s₀ s₁ s₂ s₃ =
    bit_xor (bit_xor (bit_xor (mul 2 s₀) (mul 3 s₁)) s₂) s₃ ∷
    bit_xor (bit_xor (bit_xor s₀ (mul 2 s₁)) (mul 3 s₂)) s₃ ∷
    bit_xor (bit_xor (bit_xor s₀ s₁) (mul 2 s₂)) (mul 3 s₃) ∷
    bit_xor (bit_xor (bit_xor (mul 3 s₀) s₁) s₂) (mul 2 s₃) ∷ []

abbrev pub mix_columns : List ℕ → List ℕ
mix_columns s = columns (λ c. mix_column (at s 0 c) (at s 1 c) (at s 2 c) (at s 3 c))

-- 5.1.4: the words w[4 * i] to w[4 * i + 3], and their sum with the state
abbrev pub round_key : List ℕ → ℕ → List ℕ
round_key w i =
    to_bytes 4 (get_or w (4 * i) 0) ++ to_bytes 4 (get_or w (4 * i + 1) 0) ++ to_bytes 4 (get_or w (4 * i + 2) 0) ++ to_bytes 4 (get_or w (4 * i + 3) 0)

abbrev pub add_round_key : List ℕ → List ℕ → List ℕ
add_round_key s k = xors s k

-- 5.1, Algorithm 1: a round, the last round, rounds 1 to i, and the whole with nr rounds
abbrev pub round_of : List ℕ → List ℕ → List ℕ
round_of s k = add_round_key (mix_columns (shift_rows (sub_bytes s))) k

abbrev pub last_round_of : List ℕ → List ℕ → List ℕ
last_round_of s k = add_round_key (shift_rows (sub_bytes s)) k

unfoldable pub rounds : List ℕ → ℕ → List ℕ → List ℕ
rounds w zero s = s
rounds w (suc i) s = round_of (rounds w i s) (round_key w (suc i))

unfoldable pub cipher : List ℕ → ℕ → List ℕ → List ℕ
unfolding rounds
cipher w nr s = last_round_of (rounds w (nr - 1) (add_round_key s (round_key w 0))) (round_key w nr)
