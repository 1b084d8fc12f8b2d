-- Bytes written over a buffer. What is not written stays as it was. Assumes nothing.
use Rattle.std.specs.Prelude.{ℕ, List, ◌++◌, length, take, drop}

-- d, with bs written from its start
unfoldable pub over : List ℕ → List ℕ → List ℕ
over bs d = bs ++ drop (length bs) d

-- d, with bs written from place at
unfoldable pub over_at : ℕ → List ℕ → List ℕ → List ℕ
unfolding over
over_at at bs d = take at d ++ over bs (drop at d)
