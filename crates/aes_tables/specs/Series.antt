-- Blocks that differ in their last byte alone, as the counters of counter mode do: what they share of the first two rounds.
-- Assumes nothing.
use Rattle.std.specs.Prelude.{ℕ, ◌/◌, ◌^◌, ◌≡◌, List, get_or}
use Rattle.std.specs.Int.Bits.{bit_xor}
use Rattle.aes.specs.Cipher.{add_round_key, round_key, rounds}
use Rattle.aes.specs.Columns.{block, state, added_to}
use Rattle.aes.specs.declared.State.{State}
use Rattle.aes_tables.specs.Rounds.{row_by, round_by}
use Rattle.aes_tables.specs.declared.Front.{Front}

-- the block s with v as its last word
abbrev pub ending : State → ℕ → State
ending s v = state s.c0 s.c1 s.c2 v

-- what the first column of a state adds to the columns of a round
abbrev pub spread_by : (t : List ℕ) → ℕ → State
spread_by t y = state (row_by t 2 0 y) (row_by t 2 3 y) (row_by t 2 2 y) (row_by t 2 1 y)

-- the front of x, the state before round 1, with the keys k and m of rounds 1 and 2: after round 1 the first column without what the last byte
-- adds to it, and after round 2 the state without what that column adds to it
abbrev pub front_by : (t : List ℕ) (x k m : State) → Front
front_by t x k m =
    let y : State = round_by t 2 x k in
    record { first = bit_xor y.c0 (row_by t 2 3 x.c3); rest = added_to (round_by t 2 y m) (spread_by t y.c0) }

-- the state after two rounds that v makes of the front, the last word once round key 0 is added
abbrev pub after_two : (t : List ℕ) (f : Front) (v : ℕ) → State
after_two t f v = added_to f.rest (spread_by t (bit_xor f.first (row_by t 2 3 v)))

-- f is the front of s and of the blocks that differ from it in their last byte alone: for each of them it gives the state after two rounds
pub record FrontOf (t : List ℕ) (w : List ℕ) (s : State) (f : Front) : Type 0 where
  pub second : (v : ℕ) → v / 2 ^ 8 ≡ s.c3 / 2 ^ 8
      → block (after_two t f (bit_xor v (get_or w 3 0))) ≡ rounds w 2 (add_round_key (block (ending s v)) (round_key w 0))
