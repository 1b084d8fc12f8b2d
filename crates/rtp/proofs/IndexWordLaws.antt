-- Laws of the index word of SRTCP: where it stands, and what it says. Assumes nothing.
use mathlib.Core.Path.{◌≡◌, refl, ◌∙◌}
use mathlib.Core.Bool.{Bool, true, false, cond}
use mathlib.Core.List.{List, ◌++◌}
use Prim.Native.Nat.{ℕ, ◌+◌, ◌-◌, ◌/◌, ◌%◌, ◌^◌, ◌<◌, ◌≤◌}
use native.Mathlib.Omega.{arith}
use native.Mathlib.Nat.{mod-eq_of_lt}
use lib.Dec.{eqb}
use lib.ListN.{length, take, drop, length-append, length-take, length-drop, take-append-drop}
use lib.Seq.{take-append_seam, drop-append_seam, take_all}
use borrow.Author.Tests.{eq-eqb, eqb-true, eqb-false}
use Rattle.octets.specs.BigEndian.{Bytes, to_bytes, from_bytes}
use Rattle.octets.proofs.BigEndianLaws.{length-to_bytes, from-to_bytes, to-from_bytes, from_bytes-lt}
use Rattle.rtp.specs.Protected.{rtcp_portion, word_of, e_flag, srtcp_index, index_word}
use Rattle.rtp.proofs.FieldLaws.{bytes_drop}

-- ---- behind c, and at the end of any Authenticated Portion a
module _ (c : List ℕ) (w : ℕ) where
  word_at : length (c ++ to_bytes 4 w) - 4 ≡ length c
  word_at = omega (arith, length-append c (to_bytes 4 w), length-to_bytes 4 w)

  pub before-word : rtcp_portion (c ++ to_bytes 4 w) ≡ c
  unfolding rtcp_portion
  before-word = rw word_at (take-append_seam c (to_bytes 4 w))

  pub word-is : w < 2 ^ 32 → word_of (c ++ to_bytes 4 w) ≡ w
  unfolding word_of
  word-is h = rw (word_at, drop-append_seam c (to_bytes 4 w)) (from-to_bytes 4 w ∙ mod-eq_of_lt h)

pub before-word-length : (a : List ℕ) → length (rtcp_portion a) ≡ length a - 4
unfolding rtcp_portion
before-word-length a = length-take (length a - 4) a ∙ omega arith

pub word_back : (a : List ℕ) → 4 ≤ length a → Bytes a → (rtcp_portion a ++ to_bytes 4 (word_of a) ≡ a) × (word_of a < 2 ^ 32)
unfolding rtcp_portion word_of
word_back a h b =
    let d : List ℕ = drop (length a - 4) a in
    let l : length d ≡ 4 = length-drop (length a - 4) a ∙ omega arith in
    let k : Bytes d = bytes_drop (length a - 4) a b in
    let t : take 4 d ≡ d = take_all 4 d (omega arith) in
    let w : to_bytes 4 (from_bytes d) ≡ d = rw l at (to-from_bytes d k) in
    rw (t, w) (take-append-drop (length a - 4) a, rw l at (from_bytes-lt d k))

-- ---- what the index word says
pub word_lt : (e : Bool) (i : ℕ) → index_word e i < 2 ^ 32
unfolding index_word
word_lt true i = omega arith
word_lt false i = omega arith

pub word-flag : (e : Bool) (i : ℕ) → e_flag (index_word e i) ≡ e
unfolding index_word e_flag
word-flag true i = eq-eqb ((2 ^ 31 + i % 2 ^ 31) / 2 ^ 31) 1 (omega arith)
word-flag false i = let z : (0 + i % 2 ^ 31) / 2 ^ 31 ≡ 0 = omega arith in rw z

pub word-index : (e : Bool) (i : ℕ) → i ≤ 2 ^ 31 - 1 → srtcp_index (index_word e i) ≡ i
unfolding index_word srtcp_index
word-index true i h = omega arith
word-index false i h = omega arith

pub word-whole : (w : ℕ) → w < 2 ^ 32 → index_word (e_flag w) (srtcp_index w) ≡ w
unfolding index_word e_flag srtcp_index
word-whole w h = go (eqb (w / 2 ^ 31) 1) refl
  where
    go : (t : Bool) → eqb (w / 2 ^ 31) 1 ≡ t → cond t (2 ^ 31) 0 + w % 2 ^ 31 % 2 ^ 31 ≡ w
    go true e = omega (arith, eqb-true (w / 2 ^ 31) 1 e)
    go false e = omega (arith, eqb-false (w / 2 ^ 31) 1 e)

pub index-most : (w : ℕ) → srtcp_index w ≤ 2 ^ 31 - 1
unfolding srtcp_index
index-most w = omega arith
