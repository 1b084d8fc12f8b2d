-- What the inner functions of counter mode promise. (No public contract names it, so a reader need not believe it.) Assumes nothing.
use Rattle.std.specs.Prelude.{ℕ, ◌+◌, List, take, drop}
use Rattle.octets.specs.Buffer.{over_at}
use Rattle.octets.specs.Xor.{xors}
use Rattle.transforms.specs.CounterMode.{keystream}

-- n bytes of the keystream segment, from its byte start on
abbrev pub segment : (w : List ℕ) (iv start n : ℕ) → List ℕ
segment w iv start n = drop start (keystream w iv (start + n))

-- d, with the first n bytes of s XORed into it from place at
abbrev pub xored_at : (at n : ℕ) (s d : List ℕ) → List ℕ
xored_at at n s d = over_at at (take n (xors (drop at d) s)) d
