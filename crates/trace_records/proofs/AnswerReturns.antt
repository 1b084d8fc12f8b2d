-- What the code of `src/answers.rt` and `src/lib.rt` leaves is what the definitions say. Assumes nothing.
use Rattle.std.proofs.Common.{◌≡◌, refl, sym, ap, ◌∙◌, ℕ, ◌+◌, ◌-◌, ◌≤◌, arith, List, [], ◌∷◌, ◌++◌, length, take, drop, set, append_assoc, append-nil, length-append, length-take-le, length-drop, take_all, take-append-drop, drop_of_length-le}
use Rattle.std.proofs.Math.Seq.{drop_at, drop-drop}
use Rattle.octets.proofs.BufferLaws.{over_at-over}
use Rattle.octets.specs.BigEndian.{to_bytes}
use Rattle.octets.specs.Buffer.{over, over_at}
use Rattle.trace_records.specs.Answers.{head_bytes, misfit_head}
use Rattle.trace_records.specs.Records.{Reply, Made, Untouched, Shows}
use Rattle.trace_records.specs.declared.Called.{Called}
use Rattle.trace_records.specs.declared.Contexts.{Contexts}
use Rattle.trace_records.specs.declared.Head.{Head}

-- ---- Head::put
pair_put : (d : List ℕ) (a b : ℕ) → 2 ≤ length d → set (set d 0 a) 1 b ≡ over (a ∷ b ∷ []) d
unfolding over
pair_put [] a b h = let z : ⊥ = omega arith in absurd z
pair_put (x ∷ []) a b h = let z : ⊥ = omega arith in absurd z
pair_put (x ∷ (y ∷ d)) a b h = refl

module _ (op room : ℕ) (h : Head) (d i l r : List ℕ) where
  abbrev pair : List ℕ
  pair = op ∷ h.number ∷ []

  abbrev index : List ℕ
  index = to_bytes 8 h.index

  abbrev len : List ℕ
  len = to_bytes 2 h.len

  pub head_put : 2 ≤ length d → i ≡ over_at 2 (to_bytes 8 h.index) (set (set d 0 op) 1 h.number)
      → l ≡ over_at 10 (to_bytes 2 h.len) i → r ≡ over_at 12 (to_bytes 2 room) l → r ≡ over (head_bytes op h room) d
  unfolding head_bytes
  head_put g ei el er =
      let e : i ≡ over (pair ++ index) d = ei ∙ ap (over_at 2 index) (pair_put d op h.number g) ∙ over_at-over 2 pair index d refl in
      let f : l ≡ over ((pair ++ index) ++ len) d = el ∙ ap (over_at 10 len) e ∙ over_at-over 10 (pair ++ index) len d refl in
      er ∙ ap (over_at 12 (to_bytes 2 room)) f ∙ over_at-over 12 ((pair ++ index) ++ len) (to_bytes 2 room) d refl

head-length : (op room : ℕ) (h : Head) → length (head_bytes op h room) ≡ 14
unfolding head_bytes
head-length op room h = refl

-- ---- Contexts::answer
-- 14 bytes of head written before a buffer x, of which the first `room` bytes are the answer's and the rest is as it was
head-before : (hs d x : List ℕ) (room : ℕ) → length hs ≡ 14 → 14 ≤ length d → room ≤ length x → drop room x ≡ drop room (drop 14 d)
    → over hs (take 14 d ++ x) ≡ over (hs ++ take room x) d
unfolding over
head-before hs d x room lh g lx e =
    let l : length (take 14 d) ≡ 14 = length-take-le 14 d g in
    let m : length (hs ++ take room x) ≡ 14 + room = rw (length-append hs (take room x), lh, length-take-le room x lx) refl in
    let y : x ≡ take room x ++ drop room (drop 14 d) = sym (take-append-drop room x) ∙ ap (λ r. take room x ++ r) e in
    rw (lh, drop_at (take 14 d) x 14 l, m) (ap (λ r. hs ++ r) y ∙ rw (append_assoc, drop-drop) refl)

module _ (a : Reply) (op : ℕ) (d x : List ℕ) where
  -- what a record leaves in x, the part of d behind its first 14 bytes, and the head before that
  made-shown : (k : Called) (room : ℕ) → Made a op k room (drop 14 d) x → 14 ≤ length d → room ≤ length x → (d' : List ℕ)
      → d' ≡ over (head_bytes op k.head room) (take 14 d ++ x) → Shows a d (record { len = 14 + room; next = k.next }) d'
  made-shown k room m g f d' w =
      let n : length (take room x) ≡ room = length-take-le room x f in
      let hl : length (head_bytes op k.head room) ≡ 14 = head-length op room k.head in
      rw (m.reply, n) (record {
        len = rw (length-append (head_bytes op k.head room) (take room x), hl, n) refl;
        next = refl;
        written = w ∙ head-before (head_bytes op k.head room) d x room hl g f m.rest;
      })

  -- the same of the parts as the code lends them
  pub shown : (k : Called) (room n : ℕ) → n ≡ length d - 14 → Made a op k room (take n (drop 14 d)) x → 4110 ≤ length d
      → length x ≡ length (take n (drop 14 d)) → (d' : List ℕ) → d' ≡ over (head_bytes op k.head room) (take 14 d ++ (x ++ drop n (drop 14 d)))
      → Shows a d (record { len = 14 + room; next = k.next }) d'
  shown k room n en m g l d' w =
      let e : length (drop 14 d) ≤ n = omega (arith, length-drop 14 d) in
      let y : take n (drop 14 d) ≡ drop 14 d = take_all n (drop 14 d) e in
      let made : Made a op k room (drop 14 d) x = rw y at m in
      let fits : room ≤ length x = omega (arith, made.fits, l, ap length y, length-drop 14 d) in
      made-shown k room made (omega arith) fits d'
      (w ∙ ap (λ (t : List ℕ). over (head_bytes op k.head room) (take 14 d ++ t)) (rw (drop_of_length-le (drop 14 d) e) (append-nil x)))

  -- a record that does not fit leaves an answer too, with no buffer
  pub misfit-shown : (c : Contexts) (h : Head) (n : ℕ) → h ≡ misfit_head → n ≡ length d - 14 → Untouched a op c (take n (drop 14 d)) x → 4110 ≤ length d
      → length x ≡ length (take n (drop 14 d)) → (d' : List ℕ) → d' ≡ over (head_bytes op h 0) (take 14 d ++ (x ++ drop n (drop 14 d)))
      → Shows a d (record { len = 14; next = c }) d'
  misfit-shown c h n e en m =
      shown (record { head = h; next = c }) 0 n en (rw e (record { reply = m.reply; rest = m.buffer; fits = omega arith; short = omega arith }))
