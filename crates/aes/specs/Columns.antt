-- The code keeps a state as four words, its columns. Assumes nothing.
use Rattle.std.specs.Prelude.{ℕ, ◌+◌, ◌*◌, List, ◌++◌, get_or}
use Rattle.std.specs.Int.Bits.{bit_xor}
use Rattle.octets.specs.BigEndian.{to_bytes}
use Rattle.aes.specs.declared.State.{State}

-- the 16 bytes of the state, in the order of the input (3.4)
abbrev pub block : State → List ℕ
block s = to_bytes 4 s.c0 ++ to_bytes 4 s.c1 ++ to_bytes 4 s.c2 ++ to_bytes 4 s.c3

-- the state with these columns
abbrev pub state : (a b c d : ℕ) → State
state a b c d = record { c0 = a; c1 = b; c2 = c; c3 = d }

-- round key i
abbrev pub key_state : List ℕ → ℕ → State
key_state w i = state (get_or w (4 * i) 0) (get_or w (4 * i + 1) 0) (get_or w (4 * i + 2) 0) (get_or w (4 * i + 3) 0)

-- AddRoundKey
abbrev pub added_to : (s k : State) → State
added_to s k = state (bit_xor s.c0 k.c0) (bit_xor s.c1 k.c1) (bit_xor s.c2 k.c2) (bit_xor s.c3 k.c3)
