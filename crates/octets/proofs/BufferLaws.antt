-- Laws of bytes written over a buffer: byte by byte, as a loop does it, and part behind part. Assumes nothing.
use mathlib.Core.List.{List, ◌++◌, append_assoc, append-nil}
use mathlib.Core.Path.{◌≡◌, refl, sym, ap, ap₂, ◌∙◌}
use Prim.Native.Nat.{ℕ, suc, ◌+◌, ◌-◌, ◌<◌, ◌≤◌}
use native.Mathlib.Nat.{add_assoc}
use native.Mathlib.Numerals.{add-one}
use native.Mathlib.Omega.{arith}
use lib.ListN.{length, take, drop, get_or, set, length-append, length-drop, length-take, drop_of_length-le}
use lib.Seq.{take-append_seam, drop-append_seam, drop-drop, take-length, take_all, take-suc, drop-cons, set_at, take_at, drop_at, length-take-le, sets, sets-eq}
use Rattle.octets.specs.Buffer.{over, over_at}

pub length_over : (bs d : List ℕ) → length bs ≤ length d → length (over bs d) ≡ length d
unfolding over
length_over bs d h = simp (length-append, length-drop) (omega arith)

pub take-over : (bs d : List ℕ) → take (length bs) (over bs d) ≡ bs
unfolding over
take-over bs d = take-append_seam bs (drop (length bs) d)

-- nothing is left of a buffer that is no longer
pub over-whole : (bs d : List ℕ) → length d ≤ length bs → over bs d ≡ bs
unfolding over
over-whole bs d h = rw (drop_of_length-le d h) (append-nil bs)

pub drop-over : (bs d : List ℕ) → drop (length bs) (over bs d) ≡ drop (length bs) d
unfolding over
drop-over bs d = drop-append_seam bs (drop (length bs) d)

pub length-over_at : (at : ℕ) (bs d : List ℕ) → at + length bs ≤ length d → length (over_at at bs d) ≡ length d
unfolding over_at
length-over_at at bs d h = simp (length-append, length-take, length-drop) (omega arith)

-- stores one after the other
pub over_at-sets : (at : ℕ) (bs d : List ℕ) → at + length bs ≤ length d → sets d at bs ≡ over_at at bs d
unfolding over_at
over_at-sets at bs d h = sets-eq bs d at h ∙ rw (drop-drop, append_assoc)

-- behind what was written before
pub over_at-over : (n : ℕ) (xs ys d : List ℕ) → n ≡ length xs → over_at n ys (over xs d) ≡ over (xs ++ ys) d
unfolding over_at
over_at-over n xs ys d e = rw (e, take-append_seam, drop-append_seam) (simp (drop-drop, length-append, append_assoc))

-- n bytes from at, and then more behind them
pub over_at-append : (at n : ℕ) (xs ys d : List ℕ) → n ≡ length xs → at + n ≤ length d → over_at (at + n) ys (over_at at xs d) ≡ over_at at (xs ++ ys) d
unfolding over_at
over_at-append at n xs ys d e h =
    let l : length (take at d) ≡ at = length-take-le at d (omega arith) in
    let m : length (take at d ++ xs) ≡ at + n = length-append (take at d) xs ∙ ap₂ ◌+◌ l (sym e) in
    let rest : List ℕ = drop (length xs) (drop at d) in
    let w : take at d ++ (xs ++ rest) ≡ (take at d ++ xs) ++ rest = sym (append_assoc (take at d) xs rest) in
    ap₂ (λ (p q : List ℕ). p ++ (ys ++ drop (length ys) q))
    (ap (take (at + n)) w ∙ take_at (take at d ++ xs) rest (at + n) m)
    (ap (drop (at + n)) w ∙ drop_at (take at d ++ xs) rest (at + n) m)
    ∙ simp (drop-drop, length-append, append_assoc, add_assoc)

-- what stands in the whole once a callee has written bs over the part from at to the end
pub over_at-part : (at k : ℕ) (bs d : List ℕ) → k ≡ length d - at
    → take at d ++ (over bs (take k (drop at d)) ++ drop k (drop at d)) ≡ over_at at bs d
unfolding over_at
over_at-part at k bs d e =
    let h : length (drop at d) ≤ k = omega (arith, length-drop at d) in
    simp (take_all k (drop at d) h, drop_of_length-le (drop at d) h, append-nil)

-- what stands in the whole once bs was written over as many bytes from at on
pub over_at-middle : (at k : ℕ) (bs d : List ℕ) → k ≡ length bs → take at d ++ (bs ++ drop k (drop at d)) ≡ over_at at bs d
unfolding over over_at
over_at-middle at k bs d e = rw e

-- ---- a loop that writes bs over d: after n turns the first n bytes are there
module _ (bs d : List ℕ) (h : length bs ≤ length d) where
  pub none_over : d ≡ over (take 0 bs) d
  unfolding over
  none_over = refl

  pub next-over : (n v : ℕ) → n < length bs → v ≡ get_or bs n 0 → set (over (take n bs) d) n v ≡ over (take (n + 1) bs) d
  unfolding over
  next-over n v k e =
      let hd : n < length d = omega arith in
      let hn : n ≤ length bs = omega arith in
      let hs : n + 1 ≤ length bs = omega arith in
      let l : length (take n bs) ≡ n = length-take-le n bs hn in
      let l' : length (take (n + 1) bs) ≡ n + 1 = length-take-le (n + 1) bs hs in
      rw (l, l', drop-cons d n 0 hd, set_at (take n bs) (get_or d n 0) (drop (suc n) d) v n l, e, add-one, take-suc bs n 0 k, append_assoc)

  pub all-over : (n : ℕ) → n ≡ length bs → over (take n bs) d ≡ over bs d
  all-over n e = rw (e, take-length)
