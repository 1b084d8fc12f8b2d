-- The cipher's output is bytes, whatever went in: the S-box gives bytes, and a round key is bytes. Assumes nothing.
use mathlib.Core.List.{List, [], ◌∷◌, ◌++◌}
use mathlib.Core.Path.{◌≡◌}
use Prim.Native.Nat.{ℕ, zero, suc, ◌+◌, ◌-◌, ◌*◌, ◌/◌, ◌%◌, ◌^◌, ◌<◌}
use native.Mathlib.Nat.{mod-lt, add_comm}
use native.Mathlib.Omega.{arith}
use lib.Arith.{digits_lt}
use lib.Bits.{bit_xor, xor_lt}
use lib.Dec.{lit<}
use lib.ListN.{get_or}
use lib.Pow.{pow-add}
use Rattle.aes.specs.Cipher.{at, sub_bytes, shift_rows, round_key, add_round_key, rounds, cipher}
use Rattle.aes.specs.Field.{inverse}
use Rattle.aes.specs.SBox.{bit, affine_bit, affine_bits, s_box}
use Rattle.octets.proofs.BigEndianLaws.{byte-lt}
use Rattle.octets.proofs.XorLaws.{bytes-xors}
use Rattle.octets.specs.BigEndian.{Bytes, to_bytes}
use Rattle.transforms.proofs.PartLaws.{bytes-get_or}

bit-lt : (b i : ℕ) → bit b i < 2 ^ 1
unfolding bit
bit-lt b i = mod-lt (b / 2 ^ (i % 8)) (lit< tt)

affine_bit-lt : (b i : ℕ) → affine_bit b i < 2 ^ 1
unfolding affine_bit
affine_bit-lt b i =
    next i (next (i + 4) (next (i + 5) (next (i + 6) (next (i + 7) (bit-lt 0x63 i)))))
  where
    next : (j : ℕ) {x : ℕ} → x < 2 ^ 1 → bit_xor (bit b j) x < 2 ^ 1
    next j {x} h = xor_lt 1 (bit b j) x (bit-lt b j) h

affine_bits-lt : (n b : ℕ) → affine_bits n b < 2 ^ n
unfolding affine_bits
affine_bits-lt zero b = lit< tt
affine_bits-lt (suc n) b =
    let e : suc n ≡ 1 + n = omega arith in
    rw (e, pow-add, add_comm (affine_bits n b) (affine_bit b n * 2 ^ n)) (digits_lt (affine_bit-lt b n) (affine_bits-lt n b))

s_box-lt : (b : ℕ) → s_box b < 2 ^ 8
unfolding s_box
s_box-lt b = affine_bits-lt 8 (inverse b)

bytes-sub_bytes : (s : List ℕ) → Bytes (sub_bytes s)
bytes-sub_bytes [] = tt
bytes-sub_bytes (x ∷ s) = (s_box-lt x, bytes-sub_bytes s)

bytes-shift_rows : (s : List ℕ) → Bytes s → Bytes (shift_rows s)
bytes-shift_rows s q =
    let b : (r c : ℕ) → at s r c < 2 ^ 8 = λ r c. bytes-get_or s (r + 4 * c) q in
    (b 0 0, (b 1 1, (b 2 2, (b 3 3, (b 0 1, (b 1 2, (b 2 3, (b 3 0, (b 0 2, (b 1 3, (b 2 0, (b 3 1, (b 0 3, (b 1 0, (b 2 1, (b 3 2, tt))))))))))))))))

-- a word before other bytes
pub bytes_word : (x : ℕ) (l : List ℕ) → Bytes l → Bytes (to_bytes 4 x ++ l)
bytes_word x l q = (byte-lt 3 x, (byte-lt 2 x, (byte-lt 1 x, (byte-lt 0 x, q))))

pub bytes-three : (a b c : ℕ) → Bytes (to_bytes 4 a ++ to_bytes 4 b ++ to_bytes 4 c)
bytes-three a b c = bytes_word a (to_bytes 4 b ++ to_bytes 4 c) (bytes_word b (to_bytes 4 c) (bytes_word c [] tt))

-- four words
pub bytes-words : (a b c d : ℕ) → Bytes (to_bytes 4 a ++ to_bytes 4 b ++ to_bytes 4 c ++ to_bytes 4 d)
bytes-words a b c d = bytes_word a (to_bytes 4 b ++ to_bytes 4 c ++ to_bytes 4 d) (bytes-three b c d)

pub bytes-cipher : (w : List ℕ) (nr : ℕ) (s : List ℕ) → Bytes (cipher w nr s)
unfolding cipher
bytes-cipher w nr s =
    let x : List ℕ = sub_bytes (rounds w (nr - 1) (add_round_key s (round_key w 0))) in
    bytes-xors (shift_rows x) (round_key w nr) (bytes-shift_rows x (bytes-sub_bytes (rounds w (nr - 1) (add_round_key s (round_key w 0)))))
    (bytes-words (get_or w (4 * nr) 0) (get_or w (4 * nr + 1) 0) (get_or w (4 * nr + 2) 0) (get_or w (4 * nr + 3) 0))
