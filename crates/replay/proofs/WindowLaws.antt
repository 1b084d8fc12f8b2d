-- The replay window answers as the set of accepted indices does, at every length n. Marking an index makes it a repeat for good or too
-- old, takes nothing else away that is within reach, and never lowers the highest index. Assumes nothing.
use mathlib.Core.Path.{◌≡◌, refl, sym, ◌∙◌}
use mathlib.Core.Bool.{Bool, true, false, cond, not, ◌&&◌, ◌||◌, and-false, or-false, or-true, or_comm}
use mathlib.Core.List.{List, [], ◌∷◌}
use Prim.Native.Nat.{ℕ, ◌+◌, ◌-◌, ◌*◌, ◌%◌, ◌^◌, ◌≤◌, ◌<◌, max}
use native.Mathlib.Omega.{arith}
use lib.Dec.{leb, ltb, eqb}
use borrow.Author.Tests.{ltb-true, ltb-false, leb-true, leb-false, lt-ltb, le-ltb, le-leb, lt-leb, eq-eqb, ne_eqb, eqb-true, eqb-false}
use Rattle.std.specs.Prelude.{Option, None, Some, Err}
use Rattle.replay.specs.Accepted.{mem, Accepted, start, too_old, judged, verdict, raise, accept, accept_all, highest_of, AtMost}
use Rattle.replay.specs.Row.{bit, from_words, to_words, word_count}
use Rattle.replay.specs.Window.{window_length, marks, marked, Means, window_start, window_verdict, bits_after, window_mark, window_mark_all}
use Rattle.replay.specs.declared.window.Replayed.TheVariants.{Old, Repeat}
use Rattle.replay.specs.declared.window.Window.{Window}
use Rattle.replay.proofs.BitLaws.{bit-zero, bit-power, bit_moved, bit-set, bit-mod}
use Rattle.replay.proofs.RowLaws.{from-to, from-zeros}
use Rattle.replay.proofs.AcceptedLaws.{raise-old, never-falls}

-- ---- where an index lies to a window of length n with highest index h, and what is marked there
data Place (n h j : ℕ) : Type 0 where
  above : h < j → Place n h j
  within : j ≤ h → h < j + n → Place n h j
  old : j + n ≤ h → Place n h j

place : (n h j : ℕ) → Place n h j
place n h j = go (ltb h j) refl (leb (j + n) h) refl
  where
    go : (x : Bool) → ltb h j ≡ x → (y : Bool) → leb (j + n) h ≡ y → Place n h j
    go true e y f = above (ltb-true _ _ e)
    go false e true f = old (leb-true _ _ f)
    go false e false f = within (ltb-false _ _ e) (leb-false _ _ f)

module _ (n h b j : ℕ) where
  pub marks-above : h < j → marks n (Some h) b j ≡ false
  marks-above l = rw (lt-leb j h l)

  pub marks-within : j ≤ h → h < j + n → marks n (Some h) b j ≡ bit b (h - j)
  marks-within l m = rw (le-leb j h l, lt-leb (j + n) h m)

  marks-old : j + n ≤ h → marks n (Some h) b j ≡ false
  marks-old l = rw (le-leb j h (omega arith), le-leb (j + n) h l)

-- ---- accepting i adds i to the marks and takes away only what is too old then
-- at the new highest index k, with the new bits c: it is enough to look at each of them
by_bits : (n k c i j : ℕ) (was : Bool) → i ≤ k → (k < j → was ≡ false) →
    (j ≤ k → k < j + n → bit c (k - j) ≡ (eqb j i || was)) → marks n (Some k) c j ≡ (not (too_old n (Some k) j) && (eqb j i || was))
by_bits n k c i j was l f g = go (place n k j)
  where
    go : Place n k j → marks n (Some k) c j ≡ (not (too_old n (Some k) j) && (eqb j i || was))
    go (above m) = marks-above n k c j m ∙ rw (lt-leb (j + n) k (omega arith), ne_eqb j i (λ p. omega arith), f m)
    go (within m o) = marks-within n k c j m o ∙ g m o ∙ rw (lt-leb (j + n) k o)
    go (old m) = marks-old n k c j m ∙ rw (le-leb (j + n) k m)

-- j lies as far below k as i does exactly where j is i
same_place : (k i j : ℕ) → i ≤ k → j ≤ k → eqb (k - j) (k - i) ≡ eqb j i
same_place k i j l m = go (eqb j i) refl
  where
    go : (x : Bool) → eqb j i ≡ x → eqb (k - j) (k - i) ≡ x
    go true p = let q = eqb-true j i p in eq-eqb (k - j) (k - i) (omega arith)
    go false p = let q = eqb-false j i p in ne_eqb (k - j) (k - i) (λ z. q (omega arith))

own-place : (i j : ℕ) → j ≤ i → eqb (i - j) 0 ≡ eqb j i
own-place i j m = let z : i - i ≡ 0 = omega arith in rw z at (same_place i i j (omega arith) m)

module _ (n h b i j : ℕ) where
  -- i is ahead of h
  ahead-bits : h < i → j ≤ i → i < j + n → bit (bits_after n (Some h) b i) (i - j) ≡ (eqb j i || marks n (Some h) b j)
  ahead-bits l m o = rw (lt-ltb h i l) (bit_moved n b (i - h) (i - j) (omega arith) (omega arith) ∙ go (ltb (i - j) (i - h)) refl)
    where
      go : (x : Bool) → ltb (i - j) (i - h) ≡ x → cond x (eqb (i - j) 0) (bit b (i - j - (i - h))) ≡ (eqb j i || marks n (Some h) b j)
      go true e =
          let k : i - j < i - h = ltb-true _ _ e in
          rw (marks-above n h b j (omega arith)) (own-place i j m ∙ sym (or-false (eqb j i)))
      go false e =
          let k : i - h ≤ i - j = ltb-false _ _ e in
          let z : i - j - (i - h) ≡ h - j = omega arith in
          rw (z, ne_eqb j i (λ p. omega arith), marks-within n h b j (omega arith) (omega arith))

  -- i is within reach of h
  within-bits : i ≤ h → h < i + n → j ≤ h → h < j + n → bit (bits_after n (Some h) b i) (h - j) ≡ (eqb j i || marks n (Some h) b j)
  within-bits l u m o =
      rw (le-ltb h i l, lt-leb (i + n) h u, marks-within n h b j m o)
      (bit-set b (h - i) (h - j) ∙ rw (same_place h i j l m) (or_comm (bit b (h - j)) (eqb j i)))

  -- i is too old: the bits stay
  old-bits : i + n ≤ h → j ≤ h → h < j + n → bit (bits_after n (Some h) b i) (h - j) ≡ (eqb j i || marks n (Some h) b j)
  old-bits u m o =
      rw (le-ltb h i (omega arith), le-leb (i + n) h u, ne_eqb j i (λ p. omega arith), marks-within n h b j m o)

  after-bits : Place n h i →
      marks n (raise (Some h) i) (bits_after n (Some h) b i) j ≡ (not (too_old n (raise (Some h) i) j) && (eqb j i || marks n (Some h) b j))
  after-bits (above l) =
      let e : max h i ≡ i = omega arith in
      rw e (by_bits n i (bits_after n (Some h) b i) i j (marks n (Some h) b j) (omega arith) (λ m. marks-above n h b j (omega arith)) (ahead-bits l))
  after-bits (within l u) =
      let e : max h i ≡ h = omega arith in
      rw e (by_bits n h (bits_after n (Some h) b i) i j (marks n (Some h) b j) l (marks-above n h b j) (within-bits l u))
  after-bits (old u) =
      let e : max h i ≡ h = omega arith in
      rw e (by_bits n h (bits_after n (Some h) b i) i j (marks n (Some h) b j) (omega arith) (marks-above n h b j) (old-bits u))

-- a row that has room for n bits keeps the marks
row-marks : (n : ℕ) (h : Option ℕ) (bits j : ℕ) → marks n h (from_words (to_words (word_count n) bits)) j ≡ marks n h bits j
row-marks n None bits j = refl
row-marks n (Some h) bits j = rw (from-to (word_count n) bits) (go (64 * word_count n) (omega arith) (place n h j))
  where
    go : (m : ℕ) → n ≤ m → Place n h j → marks n (Some h) (bits % 2 ^ m) j ≡ marks n (Some h) bits j
    go m f (above l) = marks-above n h (bits % 2 ^ m) j l ∙ sym (marks-above n h bits j l)
    go m f (within l o) =
        marks-within n h (bits % 2 ^ m) j l o ∙ bit-mod bits m (h - j) (omega arith) ∙ sym (marks-within n h bits j l o)
    go m f (old l) = marks-old n h (bits % 2 ^ m) j l ∙ sym (marks-old n h bits j l)

-- so it is of every window value
pub mark-marks : (n : ℕ) (w : Window) (i j : ℕ) →
    marked n (window_mark n w i) j ≡ (not (too_old n (raise w.highest i) j) && (eqb j i || marked n w j))
mark-marks n w i j = row-marks n (raise w.highest i) (bits_after n w.highest bits i) j ∙ go w.highest
  where
    bits : ℕ
    bits = from_words w.words

    go : (h : Option ℕ) → marks n (raise h i) (bits_after n h bits i) j ≡ (not (too_old n (raise h i) j) && (eqb j i || marks n h bits j))
    go None =
        by_bits n i 1 i j false (omega arith) (λ m. refl)
        (λ m o. bit-power 0 (i - j) ∙ own-place i j m ∙ sym (or-false (eqb j i)))
    go (Some h) = after-bits n h bits i j (place n h i)

-- ---- the window means a set, and goes on doing so
pub start-means : (n : ℕ) (h : Option ℕ) → Means n (window_start h) (start h)
start-means n h = record { highest = refl; marks_are = λ i. none h i ∙ sym (and-false (not (too_old n h i))) }
  where
    none : (h : Option ℕ) (i : ℕ) → marked n (window_start h) i ≡ false
    none None i = refl
    none (Some k) i =
        let z : from_words (window_start (Some k)).words ≡ 0 = from-zeros (word_count window_length) in
        rw (z, bit-zero (k - i)) (and-false (leb i k && not (too_old n (Some k) i)))

pub mark-means : (n : ℕ) (w : Window) (a : Accepted) → Means n w a → (i : ℕ) → Means n (window_mark n w i) (accept a i)
mark-means n w a s i =
    record {
      highest = rw s.highest;
      marks_are = λ j. mark-marks n w i j ∙ rw (s.marks_are j, s.highest) (kept j (too_old n (raise a.highest i) j) refl);
    }
  where
    kept : (j : ℕ) (x : Bool) → too_old n (raise a.highest i) j ≡ x →
        (not x && (eqb j i || (not (too_old n a.highest j) && mem j a.indices))) ≡ (not x && (eqb j i || mem j a.indices))
    kept j true e = refl
    kept j false e = rw (raise-old n a.highest i j e)

pub means-verdict : (n : ℕ) (w : Window) (a : Accepted) → Means n w a → (i : ℕ) → window_verdict n w i ≡ verdict n a i
means-verdict n w a s i = rw (s.marks_are i, s.highest) (go (too_old n a.highest i))
  where
    go : (old : Bool) → judged old (not old && mem i a.indices) ≡ judged old (mem i a.indices)
    go true = refl
    go false = refl

-- from set-up on, whatever is accepted and in whatever order. (Of the code: n = window_length.)
pub after-means : (n : ℕ) (w : Window) (a : Accepted) (is : List ℕ) → Means n w a → Means n (window_mark_all n w is) (accept_all a is)
after-means n w a [] s = s
after-means n w a (i ∷ is) s = after-means n (window_mark n w i) (accept a i) is (mark-means n w a s i)

pub window-is-set : (n : ℕ) (h : Option ℕ) (is : List ℕ) (i : ℕ) →
    window_verdict n (window_mark_all n (window_start h) is) i ≡ verdict n (accept_all (start h) is) i
window-is-set n h is i = means-verdict n _ _ (after-means n (window_start h) (start h) is (start-means n h)) i

-- ---- marking, of every window value
module _ (n : ℕ) where
  all-highest : (w : Window) (is : List ℕ) → (window_mark_all n w is).highest ≡ highest_of w.highest is
  all-highest w [] = refl
  all-highest w (i ∷ is) = all-highest (window_mark n w i) is

  -- the highest index never falls
  pub highest-never-falls : (w : Window) (is : List ℕ) (m : ℕ) → AtMost m w.highest → AtMost m (window_mark_all n w is).highest
  highest-never-falls w is m l = rw (all-highest w is) (never-falls w.highest is m l)

  -- what is marked or too old stays so
  abbrev Kept : Window → ℕ → Type 0
  Kept w i = too_old n w.highest i ≡ false → marked n w i ≡ true

  kept_on : (w : Window) (i j : ℕ) → Kept w i → Kept (window_mark n w j) i
  kept_on w i j k o = mark-marks n w j i ∙ rw (o, k (raise-old n w.highest j i o)) (or-true (eqb i j))

  kept-all : (w : Window) (i : ℕ) (is : List ℕ) → Kept w i → Kept (window_mark_all n w is) i
  kept-all w i [] k = k
  kept-all w i (j ∷ is) k = kept-all (window_mark n w j) i is (kept_on w i j k)

  -- an index that was marked is REPEAT for good, or OLD: whatever is marked after it
  pub marked_refused : (w : Window) (i : ℕ) (is : List ℕ) →
      window_verdict n (window_mark_all n (window_mark n w i) is) i ≡ cond (too_old n (window_mark_all n (window_mark n w i) is).highest i) (Err Old) (Err Repeat)
  marked_refused w i is = go (window_mark_all n (window_mark n w i) is) (kept-all (window_mark n w i) i is own)
    where
      own : Kept (window_mark n w i) i
      own o = mark-marks n w i i ∙ rw (o, eq-eqb i i refl)

      go : (v : Window) → Kept v i → window_verdict n v i ≡ cond (too_old n v.highest i) (Err Old) (Err Repeat)
      go v k = by (too_old n v.highest i) k
        where
          by : (old : Bool) → (old ≡ false → marked n v i ≡ true) → judged old (marked n v i) ≡ cond old (Err Old) (Err Repeat)
          by true k = refl
          by false k = rw (k refl)

  -- another index that is still within reach has the verdict that it had
  pub others_keep : (w : Window) (i j : ℕ) → (j ≡ i → ⊥) → too_old n (raise w.highest i) j ≡ false →
      window_verdict n (window_mark n w i) j ≡ window_verdict n w j
  others_keep w i j d o = rw (mark-marks n w i j, o, ne_eqb j i d, raise-old n w.highest i j o)
