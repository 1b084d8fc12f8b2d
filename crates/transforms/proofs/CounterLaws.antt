-- The counter as four words: the initial counter by the XOR of its three terms, and the counter of a block. Assumes nothing.
use mathlib.Core.List.{List, [], ◌∷◌, ◌++◌, map}
use mathlib.Core.Path.{◌≡◌, refl, sym, ap, ap₂, ◌∙◌}
use Prim.Native.Nat.{ℕ, ◌+◌, ◌*◌, ◌/◌, ◌%◌, ◌^◌, ◌<◌}
use native.Mathlib.Nat.{add-zero, add_assoc, mod-eq_of_lt, le_refl}
use native.Mathlib.Omega.{arith}
use lib.Bits.{bit_xor, xor_block, xor_zero_r, xor_comm}
use lib.ListN.{length, take, drop, get_or}
use lib.Pow.{pow_pos}
use lib.Seq.{take-add, take_all}
use Rattle.std.specs.List.{range_with_len}
use Rattle.aes.proofs.StateLaws.{added-words}
use Rattle.aes.specs.Cipher.{cipher}
use Rattle.aes.specs.Columns.{block}
use Rattle.aes.specs.declared.State.{State}
use Rattle.aes_tables.proofs.RoundLaws.{alone-in, both-in}
use Rattle.aes_tables.specs.Series.{ending}
use Rattle.octets.proofs.BigEndianLaws.{to_bytes-join, to_bytes-low, to_bytes-xor, from_bytes-append, from-to_bytes, to-from_bytes}
use Rattle.octets.specs.BigEndian.{to_bytes, from_bytes}
use Rattle.octets.specs.Xor.{xors}
use Rattle.transforms.specs.CounterMode.{initial_counter, keystream_block, keystream}
use Rattle.transforms.specs.KeyDerivation.{derivation_input}
use Rattle.transforms.proofs.BlockBytes.{bytes-three, bytes-words}
use Rattle.transforms.proofs.KeystreamLaws.{keystream-counter}

-- the bytes of four words, as `block` has them
abbrev pub words : (a b c d : ℕ) → List ℕ
words a b c d = to_bytes 4 a ++ to_bytes 4 b ++ to_bytes 4 c ++ to_bytes 4 d

-- the four words of a counter and the number itself give one keystream segment
pub counted : (w : List ℕ) (a b c d iv n : ℕ) → words a b c d ≡ to_bytes 16 iv → keystream w (from_bytes (words a b c d)) n ≡ keystream w iv n
counted w a b c d iv n e =
    keystream-counter w (from_bytes (words a b c d)) iv n (to-from_bytes (words a b c d) (bytes-words a b c d) ∙ e)

-- ---- the counter of block j

pub block_words : (a b c d j : ℕ) → d + j < 2 ^ 32 → words a b c (d + j) ≡ to_bytes 16 ((from_bytes (words a b c d) + j) % 2 ^ 128)
block_words a b c d j h =
    let l : List ℕ = to_bytes 4 a ++ to_bytes 4 b ++ to_bytes 4 c in
    let e : from_bytes (to_bytes 4 d) ≡ d = from-to_bytes 4 d ∙ mod-eq_of_lt (omega arith) in
    let v : from_bytes (words a b c d) + j ≡ from_bytes l * 2 ^ 32 + (d + j) =
    ap (λ (n : ℕ). n + j) (from_bytes-append l (to_bytes 4 d) ∙ ap (λ (n : ℕ). from_bytes l * 2 ^ 32 + n) e) ∙ add_assoc (from_bytes l * 2 ^ 32) d j in
    sym (to_bytes-low 16 16 (from_bytes (words a b c d) + j) (le_refl 16)
    ∙ ap (to_bytes 16) v
    ∙ to_bytes-join 12 4 (from_bytes l) (d + j) h
    ∙ ap (λ (x : List ℕ). x ++ to_bytes 4 (d + j)) (to-from_bytes l (bytes-three a b c)))

-- block j of the keystream
pub counter-block : (w : List ℕ) (a b c d j : ℕ) → d + j < 2 ^ 32 → cipher w 10 (words a b c (d + j)) ≡ keystream_block w (from_bytes (words a b c d)) j
unfolding keystream_block
counter-block w a b c d j h = ap (cipher w 10) (block_words a b c d j h)

-- the blocks of a series are those of the keystream
module _ (w : List ℕ) (s : State) (nr : ℕ) (r : List State) (d : State) (e : nr ≡ 10) where
  at : (j : ℕ) {x : List ℕ} → s.c3 + j < 2 ^ 32 → x ≡ cipher w nr (block (ending s (s.c3 + j))) → x ≡ keystream_block w (from_bytes (block s)) j
  at j h f = f ∙ ap (λ (n : ℕ). cipher w n (block (ending s (s.c3 + j)))) e ∙ counter-block w s.c0 s.c1 s.c2 s.c3 j h

  pub one-block : (j : ℕ) → s.c3 + j < 2 ^ 32 → map block r ≡ map (λ i. cipher w nr (block (ending s (s.c3 + i)))) (range_with_len j 1)
      → block (get_or r 0 d) ≡ keystream_block w (from_bytes (block s)) j
  one-block j h f = at j h (alone-in r d f)

  pub two-blocks : (j : ℕ) → s.c3 + (j + 1) < 2 ^ 32 → map block r ≡ map (λ i. cipher w nr (block (ending s (s.c3 + i)))) (range_with_len j 2)
      → (block (get_or r 0 d) ≡ keystream_block w (from_bytes (block s)) j) × (block (get_or r 1 d) ≡ keystream_block w (from_bytes (block s)) (j + 1))
  two-blocks j h f = let b = both-in r d f in (at j (omega arith) b.0, at (j + 1) h b.1)

-- ---- the initial counter

-- word by word
xor-words : (a b c d a' b' c' d' : ℕ) → xors (words a b c d) (words a' b' c' d') ≡ words (bit_xor a a') (bit_xor b b') (bit_xor c c') (bit_xor d d')
xor-words a b c d a' b' c' d' = sym (added-words a b c d a' b' c' d' refl refl refl refl)

-- the bytes of a number of four words
joined_words : (a b c d : ℕ) → b < 2 ^ 32 → c < 2 ^ 32 → d < 2 ^ 32 → to_bytes 16 (((a * 2 ^ 32 + b) * 2 ^ 32 + c) * 2 ^ 32 + d) ≡ words a b c d
joined_words a b c d hb hc hd =
    to_bytes-join 12 4 ((a * 2 ^ 32 + b) * 2 ^ 32 + c) d hd
    ∙ ap (λ (l : List ℕ). l ++ to_bytes 4 d) (to_bytes-join 8 4 (a * 2 ^ 32 + b) c hc ∙ ap (λ (l : List ℕ). l ++ to_bytes 4 c) (to_bytes-join 4 4 a b hb))

ssrc-words : (s : ℕ) → s < 2 ^ 32 → to_bytes 16 (s * 2 ^ 64) ≡ words 0 s 0 0
ssrc-words s h =
    let e : s * 2 ^ 64 ≡ ((0 * 2 ^ 32 + s) * 2 ^ 32 + 0) * 2 ^ 32 + 0 = omega arith in
    ap (to_bytes 16) e ∙ joined_words 0 s 0 0 h (pow_pos 32) (pow_pos 32)

index-words : (i : ℕ) → i < 2 ^ 48 → to_bytes 16 (i * 2 ^ 16) ≡ words 0 0 (i / 2 ^ 16) (i % 2 ^ 16 * 2 ^ 16)
index-words i h =
    let e : i * 2 ^ 16 ≡ ((0 * 2 ^ 32 + 0) * 2 ^ 32 + i / 2 ^ 16) * 2 ^ 32 + i % 2 ^ 16 * 2 ^ 16 = omega arith in
    let hc : i / 2 ^ 16 < 2 ^ 32 = omega arith in
    let hd : i % 2 ^ 16 * 2 ^ 16 < 2 ^ 32 = omega arith in
    ap (to_bytes 16) e ∙ joined_words 0 0 (i / 2 ^ 16) (i % 2 ^ 16 * 2 ^ 16) (pow_pos 32) hc hd

-- a list of 14 bytes in three words and half of one; the other half is zero
pub salt-words : (salt : List ℕ) (a b c d : ℕ) → length salt ≡ 14
    → to_bytes 4 a ≡ take 4 (drop 0 salt) → to_bytes 4 b ≡ take 4 (drop 4 salt) → to_bytes 4 c ≡ take 4 (drop 8 salt) → to_bytes 2 d ≡ take 2 (drop 12 salt)
    → to_bytes 16 (from_bytes salt * 2 ^ 16) ≡ words a b c (d * 2 ^ 16)
salt-words salt a b c d l p q r s =
    let three : List ℕ = to_bytes 4 a ++ to_bytes 4 b ++ to_bytes 4 c in
    let whole : three ++ to_bytes 2 d ≡ salt =
    ap₂ ◌++◌ (ap₂ ◌++◌ (ap₂ ◌++◌ p q ∙ sym (take-add 4 4 salt)) r ∙ sym (take-add 8 4 salt)) s
    ∙ sym (take-add 12 2 salt) ∙ take_all 14 salt (omega arith) in
    let padded : words a b c (d * 2 ^ 16) ≡ salt ++ (0 ∷ 0 ∷ []) =
    ap (λ (x : List ℕ). three ++ x) (ap (to_bytes 4) (sym (add-zero (d * 2 ^ 16))) ∙ to_bytes-join 2 2 d 0 (pow_pos 16))
    ∙ ap (λ (x : List ℕ). x ++ (0 ∷ 0 ∷ [])) whole in
    let v : from_bytes (words a b c (d * 2 ^ 16)) ≡ from_bytes salt * 2 ^ 16 =
    ap from_bytes padded ∙ from_bytes-append salt (0 ∷ 0 ∷ []) ∙ add-zero (from_bytes salt * 2 ^ 16) in
    ap (to_bytes 16) (sym v) ∙ to-from_bytes (words a b c (d * 2 ^ 16)) (bytes-words a b c (d * 2 ^ 16))

xor-shl : (k a b : ℕ) → bit_xor (a * 2 ^ k) (b * 2 ^ k) ≡ bit_xor a b * 2 ^ k
xor-shl k a b =
    ap₂ bit_xor (sym (add-zero (a * 2 ^ k))) (sym (add-zero (b * 2 ^ k)))
    ∙ xor_block k a b 0 0 (pow_pos k) (pow_pos k)
    ∙ add-zero (bit_xor a b * 2 ^ k)

-- the XOR of the three terms
pub initial-words : (salt a b c d ssrc index : ℕ) → ssrc < 2 ^ 32 → index < 2 ^ 48 → to_bytes 16 (salt * 2 ^ 16) ≡ words a b c (d * 2 ^ 16)
    → words a (bit_xor b ssrc) (bit_xor c (index / 2 ^ 16)) (bit_xor d (index % 2 ^ 16) * 2 ^ 16) ≡ to_bytes 16 (initial_counter salt ssrc index)
initial-words salt a b c d ssrc index hs hi e =
    sym (to_bytes-xor 16 (bit_xor (salt * 2 ^ 16) (ssrc * 2 ^ 64)) (index * 2 ^ 16)
    ∙ ap₂ xors (to_bytes-xor 16 (salt * 2 ^ 16) (ssrc * 2 ^ 64) ∙ ap₂ xors e (ssrc-words ssrc hs) ∙ xor-words a b c (d * 2 ^ 16) 0 ssrc 0 0)
    (index-words index hi)
    ∙ xor-words (bit_xor a 0) (bit_xor b ssrc) (bit_xor c 0) (bit_xor (d * 2 ^ 16) 0) 0 0 (index / 2 ^ 16) (index % 2 ^ 16 * 2 ^ 16)
    ∙ same (xor_zero_r (bit_xor a 0) ∙ xor_zero_r a) (xor_zero_r (bit_xor b ssrc)) (ap (λ (x : ℕ). bit_xor x (index / 2 ^ 16)) (xor_zero_r c))
    (ap (λ (x : ℕ). bit_xor x (index % 2 ^ 16 * 2 ^ 16)) (xor_zero_r (d * 2 ^ 16)) ∙ xor-shl 16 d (index % 2 ^ 16)))
  where
    same : {a b c d a' b' c' d' : ℕ} → a ≡ a' → b ≡ b' → c ≡ c' → d ≡ d' → words a b c d ≡ words a' b' c' d'
    same p q r s = ap₂ ◌++◌ (ap₂ ◌++◌ (ap₂ ◌++◌ (ap (to_bytes 4) p) (ap (to_bytes 4) q)) (ap (to_bytes 4) r)) (ap (to_bytes 4) s)

-- ---- key derivation: x * 2^16 is the initial counter with the label for the SSRC and 0 for the index

pub derivation-counter : (salt : List ℕ) (label : ℕ) → derivation_input salt label * 2 ^ 16 ≡ initial_counter (from_bytes salt) label 0
derivation-counter salt label =
    let e : label * 2 ^ 48 * 2 ^ 16 ≡ label * 2 ^ 64 = omega arith in
    sym (xor-shl 16 (label * 2 ^ 48) (from_bytes salt))
    ∙ ap (λ (x : ℕ). bit_xor x (from_bytes salt * 2 ^ 16)) e
    ∙ xor_comm (label * 2 ^ 64) (from_bytes salt * 2 ^ 16)
    ∙ sym (xor_zero_r (bit_xor (from_bytes salt * 2 ^ 16) (label * 2 ^ 64)))
