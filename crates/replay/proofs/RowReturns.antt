-- One law for each way out of the functions on a row and for each turn of their loops: what the code has there is what the definition says,
-- for a row of m words. Assumes nothing.
use mathlib.Core.Path.{◌≡◌, sym, ap, ap₂, ◌∙◌}
use mathlib.Core.List.{List, [], ◌++◌, append-nil}
use Prim.Native.Nat.{ℕ, suc, ◌+◌, ◌-◌, ◌*◌, ◌/◌, ◌%◌, ◌^◌, ◌≤◌, ◌<◌}
use native.Mathlib.Nat.{mod-eq_of_lt, add-zero}
use native.Mathlib.Numerals.{add-one}
use native.Mathlib.Omega.{arith}
use mir.Syntax.{w64}
use mir.Val.{Fits}
use lib.Dec.{eqb}
use lib.ListN.{length, get_or, set, take, drop, replicate, length-replicate, length-drop}
use lib.Seq.{take_all, take-suc-set, take-append-add, drop-cons, append_snoc}
use lib.Pow.{pow_pos, pow-lt}
use lib.Bits.{bit_and, bit_or, and_mask}
use Rattle.std.proofs.lemmas.List.{drop-set-lt, drop_all, take-replicate}
use borrow.Rule.Slice.PartMut.{put_mid}
use Rattle.replay.specs.Row.{bit, from_words, to_words}
use Rattle.replay.proofs.RowLaws.{Words, row-bit, row-set, carried, carried-is, lifted-is, shift-twice}

pub fitted : (n : ℕ) → Fits w64 n → n < 2 ^ 64
fitted n f = f.fits

module _ (ws : List ℕ) (k : ℕ) (h : Words ws) where
  pub has-bit-is : eqb (bit_and (get_or ws (k / 64) 0 / 2 ^ bit_and k 63) 1) 1 ≡ bit (from_words ws) k
  has-bit-is =
      rw (and_mask k 6) (ap (λ (y : ℕ). eqb y 1) (and_mask (get_or ws (k / 64) 0 / 2 ^ (k % 64)) 1) ∙ sym (row-bit ws k h))

  pub with-bit-is : (m : ℕ) → length ws ≡ m → k < 64 * m →
      set ws (k / 64) (bit_or (get_or ws (k / 64) 0) (1 * 2 ^ bit_and k 63 % 2 ^ 64)) ≡ to_words m (bit_or (from_words ws) (2 ^ k))
  with-bit-is m e l =
      let a : k / 64 < length ws = omega arith in
      let b : k % 64 < 64 = omega arith in
      let q : 64 * (k / 64) + k % 64 ≡ k = omega arith in
      let o : 1 * 2 ^ (k % 64) ≡ 2 ^ (k % 64) = omega arith in
      rw (and_mask k 6, o, mod-eq_of_lt (pow-lt b), ← e) (row-set ws (k / 64) (k % 64) h a b ∙ rw q)

-- ---- the shift by less than a word
module _ (d c j : ℕ) (ws : List ℕ) where
  pub carry-on : (whole : List ℕ) → j < length ws → take j ws ++ carried d c (drop j ws) ≡ whole →
      take (j + 1) (set ws j (bit_or (get_or ws j 0 * 2 ^ d % 2 ^ 64) c))
      ++ carried d (get_or ws j 0 / 2 ^ 1 / 2 ^ (63 - d)) (drop (j + 1) (set ws j (bit_or (get_or ws j 0 * 2 ^ d % 2 ^ 64) c))) ≡ whole
  unfolding carried
  carry-on whole l e =
      let v = bit_or (get_or ws j 0 * 2 ^ d % 2 ^ 64) c in
      let rest = carried d (get_or ws j 0 / 2 ^ 1 / 2 ^ (63 - d)) (drop (suc j) ws) in
      rw (add-one j, take-suc-set ws j v l, drop-set-lt (suc j) ws j v (omega arith))
      (append_snoc (take j ws) v rest ∙ ap (λ (x : List ℕ). take j ws ++ carried d c x) (sym (drop-cons ws j 0 l)) ∙ e)

  pub carried-all : (m : ℕ) (words : List ℕ) → d < 64 → length ws ≡ m → length words ≡ m → Words words → m ≤ j →
      take j ws ++ carried d c (drop j ws) ≡ carried d 0 words → ws ≡ to_words m (from_words words * 2 ^ d)
  unfolding carried
  carried-all m words l e f h b g =
      sym (append-nil ws)
      ∙ ap₂ (λ (x y : List ℕ). x ++ carried d c y) (sym (take_all j ws (omega arith))) (sym (drop_all j ws (omega arith)))
      ∙ g ∙ carried-is d l 0 words (pow_pos d) h
      ∙ ap₂ to_words f (add-zero (from_words words * 2 ^ d))

-- ---- the shift by whole words: the lowest are 0, and the words come above them as far as there is room
pub lifted-all : (m q : ℕ) (ws up : List ℕ) → length ws ≡ m → Words ws → q < m → up ≡ take (m - q) ws →
    put_mid q (m - q) (replicate m 0) up ≡ to_words m (from_words ws * 2 ^ (64 * q))
lifted-all m q ws up e h l d =
    let none : ℕ = 0 in
    let rest : drop (m - q) (drop q (replicate m none)) ≡ [] =
    drop_all (m - q) (drop q (replicate m none)) (simp (length-drop, length-replicate) (omega arith)) in
    let n : length (replicate q none) + (m - q) ≡ m = omega (arith, length-replicate q none) in
    let front : take m (replicate q none ++ ws) ≡ replicate q none ++ take (m - q) ws =
    rw n at (take-append-add (replicate q none) ws (m - q)) in
    rw (take-replicate q m none (omega arith), rest, append-nil, d) (sym front ∙ lifted-is q m ws h (omega arith))

-- ---- the shift by any distance
pub shifted-is : (m d : ℕ) (ws whole out : List ℕ) → whole ≡ to_words m (from_words ws * 2 ^ (64 * (d / 64))) →
    out ≡ to_words m (from_words whole * 2 ^ bit_and d 63) → out ≡ to_words m (from_words ws * 2 ^ d)
shifted-is m d ws whole out e f =
    let q : 64 * (d / 64) + d % 64 ≡ d = omega arith in
    f ∙ rw (e, and_mask d 6) (shift-twice m (from_words ws) (64 * (d / 64)) (d % 64) ∙ rw q)
