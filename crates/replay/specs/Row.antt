-- A row of 64-bit words as one number, the lowest word first. Assumes nothing.
use Rattle.std.specs.Prelude.{ℕ, zero, suc, ◌+◌, ◌*◌, ◌/◌, ◌%◌, ◌^◌, Bool, List, [], ◌∷◌, eqb}

-- bit k of a number, counted from the lowest
abbrev pub bit : (number k : ℕ) → Bool
bit x k = eqb (x / 2 ^ k % 2) 1

unfoldable pub from_words : List ℕ → ℕ
from_words [] = 0
from_words (w ∷ ws) = from_words ws * 2 ^ 64 + w

-- the lowest `count` words of a number
unfoldable pub to_words : (count number : ℕ) → List ℕ
to_words zero x = []
to_words (suc m) x = x % 2 ^ 64 ∷ to_words m (x / 2 ^ 64)

-- so many words hold n bits
abbrev pub word_count : (n : ℕ) → ℕ
word_count n = (n + 63) / 64
