-- FIPS 197, section 5.2: the key expansion, Algorithm 2, of a key of nk words. Assumes nothing.
use Rattle.std.specs.Prelude.{ℕ, zero, suc, ◌+◌, ◌-◌, ◌*◌, ◌/◌, ◌%◌, ◌^◌, cond, ◌&&◌, List, [], ◌∷◌, ◌++◌, map, ltb, eqb, length, get_or, take, drop}
use Rattle.std.specs.Int.Bits.{bit_xor}
use Rattle.octets.specs.BigEndian.{byte, to_bytes, from_bytes}
use Rattle.aes.specs.Field.{x_times}
use Rattle.aes.specs.SBox.{s_box}

-- ROTWORD: a₀ a₁ a₂ a₃ becomes a₁ a₂ a₃ a₀
abbrev pub rot_word : ℕ → ℕ
rot_word w = from_bytes (byte 2 w ∷ byte 1 w ∷ byte 0 w ∷ byte 3 w ∷ [])

-- SUBWORD
abbrev pub sub_word : ℕ → ℕ
sub_word w = from_bytes (map s_box (to_bytes 4 w))

-- x to the power i, the first byte of Rcon[i + 1]
unfoldable pub rcon_byte : ℕ → ℕ
unfolding x_times
rcon_byte zero = 1
rcon_byte (suc i) = x_times (rcon_byte i)

abbrev pub rcon : ℕ → ℕ
rcon j = rcon_byte (j - 1) * 2 ^ 24

-- what is added to w[i - nk], where t is w[i - 1]
unfoldable pub temp : ℕ → ℕ → ℕ → ℕ
unfolding rcon_byte
temp nk i t =
    cond (eqb (i % nk) 0) (bit_xor (sub_word (rot_word t)) (rcon (i / nk)))
    (cond (ltb 6 nk && eqb (i % nk) 4) (sub_word t) t)

-- w[i], where w holds the words before it and i is their number
abbrev pub next_word : ℕ → List ℕ → ℕ
next_word nk w = bit_xor (get_or w (length w - nk) 0) (temp nk (length w) (get_or w (length w - 1) 0))

-- the first n words of the key
unfoldable pub key_words : ℕ → List ℕ → List ℕ
key_words zero key = []
key_words (suc n) key = key_words n key ++ (from_bytes (take 4 (drop (4 * n) key)) ∷ [])

-- n words more
unfoldable pub expand : ℕ → ℕ → List ℕ → List ℕ
unfolding temp
expand nk zero w = w
expand nk (suc n) w = expand nk n w ++ (next_word nk (expand nk n w) ∷ [])

-- the 4 * (nr + 1) words, nr = nk + 6, of a key of 4 * nk bytes: nk of the key and 3 * nk + 28 more
unfoldable pub key_expansion : ℕ → List ℕ → List ℕ
unfolding expand key_words
key_expansion nk key = expand nk (3 * nk + 28) (key_words nk key)
