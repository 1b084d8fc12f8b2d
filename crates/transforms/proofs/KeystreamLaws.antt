-- Laws of the keystream segment of counter mode (RFC 3711, 4.1.1): its length, its blocks, its beginnings. Assumes nothing.
use mathlib.Core.List.{List, ◌++◌, append-nil, append_assoc}
use mathlib.Core.Path.{◌≡◌, refl, sym, ap, ap₂, ◌∙◌}
use Prim.Native.Nat.{ℕ, zero, suc, ◌+◌, ◌-◌, ◌*◌, ◌/◌, ◌%◌, ◌^◌, ◌<◌, ◌≤◌}
use native.Mathlib.Nat.{add-zero, add-suc, add_assoc, mod-add-mod}
use native.Mathlib.Omega.{arith}
use lib.ListN.{length, take, drop, length-append}
use lib.Seq.{take-add, take_all, take-take, take-append-le, drop_at, drop-drop, length-take-le}
use Rattle.std.proofs.lemmas.List.{drop-take}
use Rattle.aes.proofs.AesLaws.{length-cipher}
use Rattle.aes.specs.Cipher.{cipher}
use Rattle.octets.proofs.BigEndianLaws.{from-to_bytes}
use Rattle.octets.specs.BigEndian.{Bytes, to_bytes, from_bytes}
use Rattle.transforms.specs.CounterMode.{keystream_block, keystream_blocks, keystream}
use Rattle.transforms.proofs.BlockBytes.{bytes-cipher}
use Rattle.transforms.proofs.PartLaws.{part-take, bytes-append, bytes_take}

-- ---- blocks

module _ (w : List ℕ) (iv : ℕ) where
  pub length-block : (j : ℕ) → length (keystream_block w iv j) ≡ 16
  unfolding keystream_block
  length-block j = length-cipher w 10 (to_bytes 16 ((iv + j) % 2 ^ 128))

  length-blocks : (n : ℕ) → length (keystream_blocks w iv n) ≡ 16 * n
  unfolding keystream_blocks
  length-blocks zero = refl
  length-blocks (suc n) = omega (arith, length-append (keystream_blocks w iv n) (keystream_block w iv n), length-blocks n, length-block n)

  -- the first m of more blocks
  blocks-front : (m r : ℕ) → take (16 * m) (keystream_blocks w iv (m + r)) ≡ keystream_blocks w iv m
  unfolding keystream_blocks
  blocks-front m zero =
      ap (λ (n : ℕ). take (16 * m) (keystream_blocks w iv n)) (add-zero m)
      ∙ take_all (16 * m) (keystream_blocks w iv m) (omega (arith, length-blocks m))
  blocks-front m (suc r) =
      ap (λ (n : ℕ). take (16 * m) (keystream_blocks w iv n)) (add-suc m r)
      ∙ take-append-le (16 * m) (keystream_blocks w iv (m + r)) (keystream_block w iv (m + r)) (omega (arith, length-blocks (m + r)))
      ∙ blocks-front m r

  front : (m n : ℕ) → m ≤ n → take (16 * m) (keystream_blocks w iv n) ≡ keystream_blocks w iv m
  front m n h =
      let e : n ≡ m + (n - m) = omega arith in
      ap (λ (k : ℕ). take (16 * m) (keystream_blocks w iv k)) e ∙ blocks-front m (n - m)

  -- block j of n
  block_in : (j n : ℕ) → j < n → take 16 (drop (16 * j) (keystream_blocks w iv n)) ≡ keystream_block w iv j
  unfolding keystream_blocks
  block_in j n h =
      let e : 16 * j + 16 ≡ 16 * suc j = omega arith in
      sym (drop-take (16 * j) 16 (keystream_blocks w iv n))
      ∙ ap (λ (k : ℕ). drop (16 * j) (take k (keystream_blocks w iv n))) e
      ∙ ap (drop (16 * j)) (front (suc j) n h)
      ∙ drop_at (keystream_blocks w iv j) (keystream_block w iv j) (16 * j) (length-blocks j)

  -- blocks j and j + 1 of n
  pair-in : (j n : ℕ) → j + 1 < n → take 32 (drop (16 * j) (keystream_blocks w iv n)) ≡ keystream_block w iv j ++ keystream_block w iv (j + 1)
  pair-in j n h =
      let b : List ℕ = keystream_blocks w iv n in
      let e : 16 * j + 16 ≡ 16 * (j + 1) = omega arith in
      take-add 16 16 (drop (16 * j) b)
      ∙ ap₂ ◌++◌ (block_in j n (omega arith))
      (ap (take 16) (drop-drop 16 (16 * j) b ∙ ap (λ (k : ℕ). drop k b) e) ∙ block_in (j + 1) n h)

  -- ---- the segment

  pub length-keystream : (n : ℕ) → length (keystream w iv n) ≡ n
  unfolding keystream
  length-keystream n = length-take-le n (keystream_blocks w iv (n / 16 + 1)) (omega (arith, length-blocks (n / 16 + 1)))

  bytes-blocks : (n : ℕ) → Bytes (keystream_blocks w iv n)
  unfolding keystream_blocks keystream_block
  bytes-blocks zero = tt
  bytes-blocks (suc n) = bytes-append (keystream_blocks w iv n) (keystream_block w iv n) (bytes-blocks n) (bytes-cipher w 10 (to_bytes 16 ((iv + n) % 2 ^ 128)))

  pub bytes-keystream : (n : ℕ) → Bytes (keystream w iv n)
  unfolding keystream
  bytes-keystream n = bytes_take n (keystream_blocks w iv (n / 16 + 1)) (bytes-blocks (n / 16 + 1))

  -- any blocks that reach further begin with it
  keystream-more : (n k : ℕ) → n / 16 + 1 ≤ k → keystream w iv n ≡ take n (keystream_blocks w iv k)
  unfolding keystream
  keystream-more n k h =
      sym (ap (take n) (front (n / 16 + 1) k h)) ∙ take-take n (16 * (n / 16 + 1)) (keystream_blocks w iv k) (omega arith)

  -- m bytes of it that lie in blocks j and j + 1, from the first one's byte o on
  pub keystream-pair : (n j o m : ℕ) → o + m ≤ 32 → 16 * j + o + m ≤ n
      → take m (drop (16 * j + o) (keystream w iv n)) ≡ take m (drop o (keystream_block w iv j ++ keystream_block w iv (j + 1)))
  keystream-pair n j o m h k =
      let b : List ℕ = keystream_blocks w iv (n / 16 + 2) in
      let i : j + 1 < n / 16 + 2 = omega arith in
      ap (λ (x : List ℕ). take m (drop (16 * j + o) x)) (keystream-more n (n / 16 + 2) (omega arith))
      ∙ part-take m (16 * j + o) n b k
      ∙ ap (take m) (sym (drop-drop o (16 * j) b))
      ∙ sym (part-take m o 32 (drop (16 * j) b) h)
      ∙ ap (λ (x : List ℕ). take m (drop o x)) (pair-in j (n / 16 + 2) i)

  pub take-keystream : (m n : ℕ) → m ≤ n → take m (keystream w iv n) ≡ keystream w iv m
  unfolding keystream
  take-keystream m n h =
      let b : List ℕ = keystream_blocks w iv (n / 16 + 1) in
      let q : m / 16 + 1 ≤ n / 16 + 1 = omega arith in
      take-take m n b h
      ∙ sym (take-take m (16 * (m / 16 + 1)) b (omega arith))
      ∙ ap (take m) (front (m / 16 + 1) (n / 16 + 1) q)

-- ---- a segment behind its first m blocks is the segment of the counter that stands there

block-behind : (w : List ℕ) (iv m j : ℕ) → keystream_block w iv (m + j) ≡ keystream_block w (iv + m) j
unfolding keystream_block
block-behind w iv m j = ap (λ (n : ℕ). cipher w 10 (to_bytes 16 (n % 2 ^ 128))) (sym (add_assoc iv m j))

blocks-behind : (w : List ℕ) (iv m n : ℕ) → keystream_blocks w iv (m + n) ≡ keystream_blocks w iv m ++ keystream_blocks w (iv + m) n
unfolding keystream_blocks
blocks-behind w iv m zero = ap (keystream_blocks w iv) (add-zero m) ∙ sym (append-nil (keystream_blocks w iv m))
blocks-behind w iv m (suc n) =
    ap (keystream_blocks w iv) (add-suc m n)
    ∙ ap₂ ◌++◌ (blocks-behind w iv m n) (block-behind w iv m n)
    ∙ append_assoc (keystream_blocks w iv m) (keystream_blocks w (iv + m) n) (keystream_block w (iv + m) n)

pub keystream-behind : (w : List ℕ) (iv m n : ℕ) → drop (16 * m) (keystream w iv (16 * m + n)) ≡ keystream w (iv + m) n
unfolding keystream
keystream-behind w iv m n =
    let a : List ℕ = keystream_blocks w iv m in
    let b : List ℕ = keystream_blocks w (iv + m) (n / 16 + 1) in
    let l : length a ≡ 16 * m = length-blocks w iv m in
    let e : (16 * m + n) / 16 + 1 ≡ m + (n / 16 + 1) = omega arith in
    ap (λ (k : ℕ). drop (16 * m) (take (16 * m + n) (keystream_blocks w iv k))) e
    ∙ ap (λ (x : List ℕ). drop (16 * m) (take (16 * m + n) x)) (blocks-behind w iv m (n / 16 + 1))
    ∙ drop-take (16 * m) n (a ++ b)
    ∙ ap (take n) (drop_at a b (16 * m) l)

-- ---- the initial counter counts modulo 2^128: its bytes fix the segment

block-counter : (w : List ℕ) (v iv j : ℕ) → v % 2 ^ 128 ≡ iv % 2 ^ 128 → keystream_block w v j ≡ keystream_block w iv j
unfolding keystream_block
block-counter w v iv j e =
    ap (λ (x : ℕ). cipher w 10 (to_bytes 16 x))
    (sym (mod-add-mod v (2 ^ 128) j) ∙ ap (λ (x : ℕ). (x + j) % 2 ^ 128) e ∙ mod-add-mod iv (2 ^ 128) j)

blocks-counter : (w : List ℕ) (v iv n : ℕ) → v % 2 ^ 128 ≡ iv % 2 ^ 128 → keystream_blocks w v n ≡ keystream_blocks w iv n
unfolding keystream_blocks
blocks-counter w v iv zero e = refl
blocks-counter w v iv (suc n) e = ap₂ ◌++◌ (blocks-counter w v iv n e) (block-counter w v iv n e)

pub keystream-counter : (w : List ℕ) (v iv n : ℕ) → to_bytes 16 v ≡ to_bytes 16 iv → keystream w v n ≡ keystream w iv n
unfolding keystream
keystream-counter w v iv n e =
    ap (take n) (blocks-counter w v iv (n / 16 + 1) (sym (from-to_bytes 16 v) ∙ ap from_bytes e ∙ from-to_bytes 16 iv))
