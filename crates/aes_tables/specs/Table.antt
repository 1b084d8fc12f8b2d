-- What a byte adds to a column of a round (FIPS 197, 5.1.1 and 5.1.3), and the table of it. Assumes nothing.
use Rattle.std.specs.Prelude.{ℕ, zero, suc, ◌+◌, ◌*◌, ◌/◌, ◌%◌, ◌^◌, ◌<◌, ◌≡◌, List, [], ◌∷◌, length, drop, get_or}
use Rattle.octets.specs.BigEndian.{to_bytes}
use Rattle.aes.specs.Field.{mul}
use Rattle.aes.specs.SBox.{s_box}

-- the products of s that MixColumns adds to the four bytes of a column, where s stands in row r of it: column r of the matrix of 5.1.3
abbrev pub products : ℕ → ℕ → List ℕ
products zero s = mul 2 s ∷ s ∷ s ∷ mul 3 s ∷ []
products (suc zero) s = mul 3 s ∷ mul 2 s ∷ s ∷ s ∷ []
products (suc (suc zero)) s = s ∷ mul 3 s ∷ mul 2 s ∷ s ∷ []
products (suc (suc (suc r))) s = s ∷ s ∷ mul 3 s ∷ mul 2 s ∷ []

-- s alone in row r: the last round has no MixColumns
abbrev pub alone : ℕ → ℕ → List ℕ
alone zero s = s ∷ 0 ∷ 0 ∷ 0 ∷ []
alone (suc zero) s = 0 ∷ s ∷ 0 ∷ 0 ∷ []
alone (suc (suc zero)) s = 0 ∷ 0 ∷ s ∷ 0 ∷ []
alone (suc (suc (suc r))) s = 0 ∷ 0 ∷ 0 ∷ s ∷ []

-- the word that begins r bytes up
abbrev pub word : ℕ → ℕ → ℕ
word r v = v / 2 ^ (8 * r) % 2 ^ 32

-- two words as one number, the second above the first: those of byte x, where entries are d words apart
abbrev pub entry : (t : List ℕ) (d x : ℕ) → ℕ
entry t d x = get_or t (d * x + 1) 0 * 2 ^ 32 + get_or t (d * x) 0

-- row r of entry x
unfoldable pub cell : (t : List ℕ) (d r x : ℕ) → ℕ
cell t d r x = word r (entry t d x)

-- a table has in each row of a byte's entry what f gives of the row and the substitute
abbrev pub Rows : (ℕ → ℕ → List ℕ) → ℕ → List ℕ → Type 0
Rows f d t = (r x : ℕ) → r < 4 → x < 256 → to_bytes 4 (cell t d r x) ≡ f r (s_box x)

-- the table of a round, and behind it that of the last round
pub record RoundTable (t : List ℕ) : Type 0 where
  pub size : length t ≡ 769
  pub mixed : Rows products 2 t
  pub last : Rows alone 1 (drop 512 t)
