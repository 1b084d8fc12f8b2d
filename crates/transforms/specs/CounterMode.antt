-- RFC 3711, section 4.1.1: AES in counter mode, on whatever round key words w there are (10 rounds). Assumes nothing.
use Rattle.std.specs.Prelude.{ℕ, zero, suc, ◌+◌, ◌*◌, ◌/◌, ◌%◌, ◌^◌, List, [], ◌++◌, take}
use Rattle.std.specs.Int.Bits.{bit_xor}
use Rattle.octets.specs.BigEndian.{to_bytes}
use Rattle.aes.specs.Cipher.{cipher}

-- IV = (k_s * 2^16) XOR (SSRC * 2^64) XOR (i * 2^16)
abbrev pub initial_counter : (salt ssrc index : ℕ) → ℕ
initial_counter salt ssrc index = bit_xor (bit_xor (salt * 2 ^ 16) (ssrc * 2 ^ 64)) (index * 2 ^ 16)

-- E(k, IV + j mod 2^128)
unfoldable pub keystream_block : (w : List ℕ) (iv j : ℕ) → List ℕ
keystream_block w iv j = cipher w 10 (to_bytes 16 ((iv + j) % 2 ^ 128))

-- E(k, IV) || E(k, IV + 1 mod 2^128) || .., n blocks
unfoldable pub keystream_blocks : (w : List ℕ) (iv n : ℕ) → List ℕ
keystream_blocks w iv zero = []
keystream_blocks w iv (suc n) = keystream_blocks w iv n ++ keystream_block w iv n

-- the first n bytes of the keystream segment
unfoldable pub keystream : (w : List ℕ) (iv n : ℕ) → List ℕ
keystream w iv n = take n (keystream_blocks w iv (n / 16 + 1))
