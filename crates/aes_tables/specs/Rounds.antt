-- A round by table, on states of four words. (That it is a round of FIPS 197 is proved of it: a reader need not believe it.)
-- Assumes nothing.
use Rattle.std.specs.Prelude.{ℕ, ◌-◌, List, map}
use Rattle.std.specs.Int.Bits.{bit_xor}
use Rattle.octets.specs.BigEndian.{byte}
use Rattle.aes.specs.Columns.{state}
use Rattle.aes.specs.declared.State.{State}
use Rattle.aes_tables.specs.Table.{cell}

-- what the byte in row r of the column a adds, by a table whose entries are d words apart
abbrev pub row_by : (t : List ℕ) (d r a : ℕ) → ℕ
row_by t d r a = cell t d r (byte (3 - r) a)

-- x with what the column a adds to it, where row r of a goes to the r-th column before the first; and turned, so that the column behind a comes next
abbrev pub turned_by : (t : List ℕ) (d : ℕ) (x : State) (a : ℕ) → State
turned_by t d x a =
    state (bit_xor x.c1 (row_by t d 3 a)) (bit_xor x.c2 (row_by t d 2 a)) (bit_xor x.c3 (row_by t d 1 a)) (bit_xor x.c0 (row_by t d 0 a))

-- a round on s with the key k
abbrev pub round_by : (t : List ℕ) (d : ℕ) (s k : State) → State
round_by t d s k = turned_by t d (turned_by t d (turned_by t d (turned_by t d k s.c0) s.c1) s.c2) s.c3

-- the round on each of the states
unfoldable pub each_round_by : (t : List ℕ) (d : ℕ) (states : List State) (k : State) → List State
each_round_by t d states k = map (λ s. round_by t d s k) states
