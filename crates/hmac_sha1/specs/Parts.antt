-- What the contracts inside the crate speak of, beside the standard's own terms. Assumes nothing.
use Rattle.std.specs.Prelude.{◌≡◌, ℕ, ◌+◌, ◌-◌, ◌%◌, ◌<◌, ◌≤◌, List, ◌++◌, length, replicate, bit_xor, slice_index}
use Rattle.hmac_sha1.specs.declared.State.{State}
use Rattle.hmac_sha1.specs.Sha1.{rotl, padding, schedule, rounds, hash_all, digest_of}

-- A ring w of sixteen words (FIPS 180-4, section 6.1.3) that the words before W_t of the block m went through: of these, each W_k of the last
-- sixteen stands at place k mod 16.
abbrev pub Ring : List ℕ → ℕ → List ℕ → Type 0
Ring m t w = (length w ≡ 16) × ((k : ℕ) → k < t → t ≤ k + 16 → slice_index w (k % 16) ≡ slice_index (schedule m 80) k)

-- r is s after the k rounds from round t on (FIPS 180-4, section 6.1.2, step 3) of each block whose words for them stand in the ring w
abbrev pub IsAfterRounds : List ℕ → ℕ → ℕ → State → State → Type 0
IsAfterRounds w t k s r = (m : List ℕ) (n : ℕ) → t + k ≤ n → n ≤ t + 16 → Ring m n w → r ≡ rounds (schedule m 80) t k s

-- W_t from a ring w of the words before it, where i = t mod 16 (the same section, where i is called s)
abbrev pub mixed_in : List ℕ → ℕ → ℕ
mixed_in w i =
    rotl 1 (bit_xor (bit_xor (bit_xor (slice_index w ((i + 13) % 16)) (slice_index w ((i + 8) % 16))) (slice_index w ((i + 2) % 16))) (slice_index w i))

-- the block that begins with m, with zeros behind it
unfoldable pub zero_filled : List ℕ → List ℕ
zero_filled m = m ++ replicate (64 - length m) 0

-- the digest of a message whose first n bytes, whole blocks, have led to the hash value h, and m is the rest
unfoldable pub sha1_after : State → ℕ → List ℕ → List ℕ
sha1_after h n m = digest_of (hash_all h (m ++ padding (n + length m)))
