-- Laws of a message: blocks one after the other, the block that two parts share, the blocks that end it. Assumes nothing.
use Rattle.std.proofs.Common.{◌≡◌, ℕ, zero, suc, ◌+◌, ◌-◌, ◌*◌, ◌/◌, ◌%◌, ◌<◌, ◌≤◌, List, [], ◌∷◌, ◌++◌, length, get_or, take, drop, set, replicate, sym, refl, ap, ◌∙◌, ap₂, append_assoc, append-nil, add-zero, add-suc, add-one, arith, length-append, length-drop, take-append-drop, drop_of_length-le, length-take-le, take_all, drop-drop, take_at, drop_at}
use lib.ListN.{length-replicate, replicate-append-replicate}
use lib.Seq.{take-append-le, drop-append-le, set_at, drop-length}
use Rattle.std.proofs.lemmas.List.{drop-replicate}
use Rattle.std.specs.Simd.{first_chunks}
use Rattle.octets.specs.BigEndian.{to_bytes}
use Rattle.octets.specs.Buffer.{over, over_at}
use Rattle.octets.proofs.BufferLaws.{over-whole, length-over_at, over_at-over, over_at-part}
use Rattle.hmac_sha1.specs.declared.State.{State}
use Rattle.hmac_sha1.specs.Sha1.{padding, zeros, block_at, compress, hash_value, hash_all, digest_of}
use Rattle.hmac_sha1.specs.Parts.{zero_filled, sha1_after}

-- ---- blocks one after the other

next-block : (h s : State) (p : List ℕ) (n : ℕ) → s ≡ hash_value h p n → compress s (block_at p n) ≡ hash_value h p (n + 1)
unfolding hash_value
next-block h s p n e = rw (add-one, e)

-- the block that a loop over the whole blocks has in hand
block-chunk : (k n : ℕ) (p d : List ℕ) → n < k → get_or (first_chunks 64 k p) n d ≡ block_at p n
block-chunk zero n p d l = absurd (omega arith)
block-chunk (suc k) zero p d l = refl
block-chunk (suc k) (suc n) p d l =
    let e : 64 + 64 * n ≡ 64 * suc n = omega arith in
    block-chunk k n (drop 64 p) d (omega arith) ∙ rw (drop-drop, e)

pub next-chunk : (h s : State) (p d : List ℕ) (bs : List (List ℕ)) (n : ℕ) → s ≡ hash_value h p n → bs ≡ first_chunks 64 (length p / 64) p → n < length p / 64
    → compress s (get_or bs n d) ≡ hash_value h p (n + 1)
next-chunk h s p d bs n e f l =
    ap (compress s) (ap (λ (l : List (List ℕ)). get_or l n d) f ∙ block-chunk (length p / 64) n p d l) ∙ next-block h s p n e

-- some blocks, and then more
hash_value-add : (h : State) (p : List ℕ) (k n : ℕ) → hash_value h p (k + n) ≡ hash_value (hash_value h p k) (drop (64 * k) p) n
unfolding hash_value
hash_value-add h p k zero = rw add-zero
hash_value-add h p k (suc n) =
    let e : 64 * k + 64 * n ≡ 64 * (k + n) = omega arith in
    rw (add-suc, ← hash_value-add h p k n, drop-drop, e)

-- blocks that lie in a front of p
hash_value-front : (h : State) (p q : List ℕ) (n : ℕ) → 64 * n ≤ length p → hash_value h (p ++ q) n ≡ hash_value h p n
unfolding hash_value
hash_value-front h p q zero l = refl
hash_value-front h p q (suc n) l =
    let l₁ : 64 * n ≤ length p = omega arith in
    let l₂ : 64 ≤ length (drop (64 * n) p) = omega (arith, length-drop (64 * n) p) in
    ap₂ compress (hash_value-front h p q n l₁) (ap (take 64) (drop-append-le (64 * n) p q l₁) ∙ take-append-le 64 (drop (64 * n) p) q l₂)

-- the whole blocks of m, and then its rest and what follows it
pub hash-split : (h : State) (m q : List ℕ) → hash_all h (m ++ q) ≡ hash_all (hash_all h m) (drop (64 * (length m / 64)) m ++ q)
unfolding hash_all
hash-split h m q =
    let k : ℕ = length m / 64 in
    let l : 64 * k ≤ length m = omega arith in
    let e : length (m ++ q) / 64 ≡ k + length (drop (64 * k) m ++ q) / 64 = omega (arith, length-append m q, length-append (drop (64 * k) m) q, length-drop (64 * k) m) in
    ap (hash_value h (m ++ q)) e
    ∙ hash_value-add h (m ++ q) k (length (drop (64 * k) m ++ q) / 64)
    ∙ ap₂ (λ (s : State) (p : List ℕ). hash_value s p (length (drop (64 * k) m ++ q) / 64)) (hash_value-front h m q k l) (drop-append-le (64 * k) m q l)

-- a single block
pub hash-one : (h : State) (p : List ℕ) → length p ≡ 64 → hash_all h p ≡ compress h p
unfolding hash_all hash_value
hash-one h p l =
    let e : length p / 64 ≡ 1 = omega arith in
    rw e (ap (compress h) (take_all 64 p (omega arith)))

-- a first block
pub hash-first : (h : State) (p q : List ℕ) → length p ≡ 64 → hash_all h (p ++ q) ≡ hash_all (compress h p) q
hash-first h p q l =
    let e : 64 * (length p / 64) ≡ length p = omega arith in
    hash-split h p q ∙ ap₂ (λ (s : State) (d : List ℕ). hash_all s (d ++ q)) (hash-one h p l) (ap (λ (n : ℕ). drop n p) e ∙ drop-length p)

-- ---- a block put together from parts

pub length-zero_filled : (m : List ℕ) → length m ≤ 64 → length (zero_filled m) ≡ 64
unfolding zero_filled
length-zero_filled m l = simp (length-append, length-replicate) (omega arith)

pub zero_filled-full : (m : List ℕ) → length m ≡ 64 → zero_filled m ≡ m
unfolding zero_filled
zero_filled-full m l = rw l (append-nil m)

-- a written over the start of d, and then b over the part behind it
pub filled-parts : (a b d d₁ d₂ : List ℕ) → d₁ ≡ over a d → d₂ ≡ over b (take (length d₁ - length a) (drop (length a) d₁))
    → take (length a) d₁ ++ (d₂ ++ drop (length d₁ - length a) (drop (length a) d₁)) ≡ over (a ++ b) d
filled-parts a b d d₁ d₂ e₁ e₂ =
    ap (λ (x : List ℕ). take (length a) d₁ ++ (x ++ drop (length d₁ - length a) (drop (length a) d₁))) e₂
    ∙ over_at-part (length a) (length d₁ - length a) b d₁ refl
    ∙ ap (over_at (length a) b) e₁
    ∙ over_at-over (length a) a b d refl

-- m written over a block of zeros
pub filled-zeros : (m : List ℕ) → over m (replicate 64 0) ≡ zero_filled m
unfolding over zero_filled
filled-zeros m = ap (λ (z : List ℕ). m ++ z) (drop-replicate (length m) 64 0)

-- and the first byte of the padding behind it
pub stored-end : (m d : List ℕ) (n : ℕ) → d ≡ over m (replicate 64 0) → n ≡ length m → n < 64 → set d n 0x80 ≡ zero_filled (m ++ (0x80 ∷ []))
unfolding zero_filled
stored-end m d n f e l =
    let k : 64 - length m ≡ suc (64 - length (m ++ (0x80 ∷ []))) = omega (arith, length-append m (0x80 ∷ [])) in
    ap (λ (x : List ℕ). set x n 0x80) (f ∙ filled-zeros m)
    ∙ rw (k, set_at m 0 (replicate (64 - length (m ++ (0x80 ∷ []))) 0) 0x80 n (sym e), append_assoc)

-- ---- the rest of a message in parts, behind its whole blocks and behind the block that two parts share

-- a part of a slice that reaches to its end
to_end : (m : List ℕ) (at : ℕ) → take (length m - at) (drop at m) ≡ drop at m
to_end m at = take_all (length m - at) (drop at m) (omega (arith, length-drop at m))

-- behind the whole blocks of a
pub hash-rest : (h s : State) (a b q r : List ℕ) → s ≡ hash_all h a → r ≡ drop (length a / 64 * 64) a → hash_all s ((r ++ b) ++ q) ≡ hash_all h ((a ++ b) ++ q)
hash-rest h s a b q r e f =
    let k : length a / 64 * 64 ≡ 64 * (length a / 64) = omega arith in
    ap₂ (λ (t : State) (d : List ℕ). hash_all t ((d ++ b) ++ q)) e (f ∙ ap (λ (n : ℕ). drop n a) k)
    ∙ sym (ap (hash_all h) (append_assoc a b q) ∙ hash-split h a (b ++ q) ∙ ap (hash_all (hash_all h a)) (sym (append_assoc (drop (64 * (length a / 64)) a) b q)))

-- behind a block with bytes of both parts
pub hash-joint : (h s : State) (a b q block : List ℕ) (g : ℕ) → g ≡ 64 - length a → length a < 64 → g ≤ length b
    → block ≡ zero_filled (a ++ take g b) → s ≡ compress h block → hash_all s (take (length b - g) (drop g b) ++ q) ≡ hash_all h ((a ++ b) ++ q)
hash-joint h s a b q block g e l k eb es =
    let n : length (a ++ take g b) ≡ 64 = omega (arith, length-append a (take g b), length-take-le g b k) in
    let f : (a ++ take g b) ++ (drop g b ++ q) ≡ (a ++ b) ++ q = simp (← append_assoc) (rw (append_assoc a (take g b) (drop g b), take-append-drop)) in
    ap₂ (λ (t : State) (d : List ℕ). hash_all t (d ++ q)) (es ∙ ap (compress h) (eb ∙ zero_filled-full (a ++ take g b) n)) (to_end b g)
    ∙ sym (hash-first h (a ++ take g b) (drop g b ++ q) n)
    ∙ ap (hash_all h) f

-- ---- the blocks that end a message of n bytes, whose last bytes m are less than a block

-- m, the byte 0x80 and i zeros
end : List ℕ → ℕ → List ℕ
end m i = m ++ (0x80 ∷ replicate i 0)

length-end : (m : List ℕ) (i : ℕ) → length (end m i) ≡ length m + 1 + i
unfolding end
length-end m i = simp (length-append, length-replicate) (omega arith)

end_more : (m w : List ℕ) (i j : ℕ) → end m (i + j) ++ w ≡ end m i ++ (replicate j 0 ++ w)
unfolding end
end_more m w i j =
    ap (λ (z : List ℕ). (m ++ (0x80 ∷ z)) ++ w) (sym (replicate-append-replicate i j 0)) ∙ simp append_assoc

zero_filled-end : (m : List ℕ) (i : ℕ) → length m + 1 + i ≡ 64 → zero_filled (m ++ (0x80 ∷ [])) ≡ end m i
unfolding zero_filled end
zero_filled-end m i e =
    let k : 64 - length (m ++ (0x80 ∷ [])) ≡ i = omega (arith, length-append m (0x80 ∷ [])) in
    rw (k, append_assoc)

padding-end : (m : List ℕ) (n i : ℕ) → zeros n ≡ i → m ++ padding n ≡ end m i ++ to_bytes 8 (8 * n)
unfolding padding end
padding-end m n i e = rw e (sym (append_assoc m (0x80 ∷ replicate i 0) (to_bytes 8 (8 * n))))

-- the last eight bytes of a block written
over_at-end : (p q w : List ℕ) → length p ≡ 56 → length q ≤ length w → over_at 56 w (p ++ q) ≡ p ++ w
unfolding over_at over
over_at-end p q w l k = rw (take_at p q 56 l, drop_at p q 56 l, drop_of_length-le q k, append-nil)

-- room for the length behind m
one_block : (m : List ℕ) (n i : ℕ) → length m + 1 + i ≡ 56 → length m ≡ n % 64
    → m ++ padding n ≡ over_at 56 (to_bytes 8 (8 * n)) (zero_filled (m ++ (0x80 ∷ [])))
one_block m n i l e =
    padding-end m n i (omega arith)
    ∙ sym (ap (over_at 56 (to_bytes 8 (8 * n))) (zero_filled-end m (i + 8) (omega arith) ∙ sym (append-nil (end m (i + 8))) ∙ end_more m [] i 8)
    ∙ over_at-end (end m i) (replicate 8 0) (to_bytes 8 (8 * n)) (length-end m i ∙ l) (omega arith))

-- or none
two_blocks : (m : List ℕ) (n i : ℕ) → length m + 1 + i ≡ 64 → i < 8 → length m ≡ n % 64
    → m ++ padding n ≡ zero_filled (m ++ (0x80 ∷ [])) ++ over_at 56 (to_bytes 8 (8 * n)) (replicate 64 0)
two_blocks m n i l k e =
    padding-end m n (i + 56) (omega arith)
    ∙ end_more m (to_bytes 8 (8 * n)) i 56
    ∙ sym (ap₂ ◌++◌ (zero_filled-end m i l) (over_at-end (replicate 56 0) (replicate 8 0) (to_bytes 8 (8 * n)) refl (omega arith)))

pub length_last : (n : ℕ) (b : List ℕ) → length b ≡ 64 → length (over_at 56 (to_bytes 8 (8 * n)) b) ≡ 64
length_last n b l = length-over_at 56 (to_bytes 8 (8 * n)) b (omega arith) ∙ l

pub length-ended : (m : List ℕ) → length m < 64 → length (zero_filled (m ++ (0x80 ∷ []))) ≡ 64
length-ended m l = length-zero_filled (m ++ (0x80 ∷ [])) (omega (arith, length-append m (0x80 ∷ [])))

module _ (h : State) (m : List ℕ) (n : ℕ) (e : length m ≡ n % 64) where
  pub hash-last : length m < 56 → compress h (over_at 56 (to_bytes 8 (8 * n)) (zero_filled (m ++ (0x80 ∷ [])))) ≡ hash_all h (m ++ padding n)
  hash-last l =
      sym (hash-one h _ (length_last n _ (length-ended m (omega arith)))) ∙ ap (hash_all h) (sym (one_block m n (55 - length m) (omega arith) e))

  pub hash-last-two : 56 ≤ length m
      → compress (compress h (zero_filled (m ++ (0x80 ∷ [])))) (over_at 56 (to_bytes 8 (8 * n)) (replicate 64 0)) ≡ hash_all h (m ++ padding n)
  hash-last-two l =
      sym (hash-one _ _ (length_last n (replicate 64 0) refl))
      ∙ sym (hash-first h _ _ (length-ended m (omega arith)))
      ∙ ap (hash_all h) (sym (two_blocks m n (63 - length m) (omega arith) (omega arith) e))

-- ---- the digest

at-start : (bs d : List ℕ) → over_at 0 bs d ≡ over bs d
unfolding over_at over
at-start bs d = refl

-- the words of a hash value written one behind the other
pub five-words : (s : State) (d d₁ d₂ d₃ d₄ d₅ : List ℕ) → d₁ ≡ over_at 0 (to_bytes 4 s.a) d → d₂ ≡ over_at 4 (to_bytes 4 s.b) d₁
    → d₃ ≡ over_at 8 (to_bytes 4 s.c) d₂ → d₄ ≡ over_at 12 (to_bytes 4 s.d) d₃ → d₅ ≡ over_at 16 (to_bytes 4 s.e) d₄ → d₅ ≡ over (digest_of s) d
unfolding digest_of
five-words s d d₁ d₂ d₃ d₄ d₅ e₁ e₂ e₃ e₄ e₅ =
    let w : ℕ → List ℕ = to_bytes 4 in
    e₅ ∙ ap (over_at 16 (w s.e))
    (e₄ ∙ ap (over_at 12 (w s.d))
    (e₃ ∙ ap (over_at 8 (w s.c)) (e₂ ∙ ap (over_at 4 (w s.b)) (e₁ ∙ at-start (w s.a) d) ∙ over_at-over 4 (w s.a) (w s.b) d refl)
    ∙ over_at-over 8 (w s.a ++ w s.b) (w s.c) d refl)
    ∙ over_at-over 12 (w s.a ++ w s.b ++ w s.c) (w s.d) d refl)
    ∙ over_at-over 16 (w s.a ++ w s.b ++ w s.c ++ w s.d) (w s.e) d refl

-- a digest written where there is room for no more
pub digest-alone : (s : State) (d d₁ : List ℕ) → length d ≡ 20 → d₁ ≡ over (digest_of s) d → d₁ ≡ digest_of s
unfolding digest_of
digest-alone s d d₁ l e =
    let h : length d ≤ length (digest_of s) = omega arith in
    e ∙ over-whole (digest_of s) d h

-- a digest behind one block, with its padding
pub digest-padded : (s : State) (d₁ d₂ : List ℕ) → d₁ ≡ over (digest_of s) (replicate 64 0) → d₂ ≡ over_at 56 (to_bytes 8 (8 * 84)) (set d₁ 20 0x80)
    → d₂ ≡ digest_of s ++ padding 84
unfolding over_at over digest_of padding
digest-padded s d₁ d₂ e f = f ∙ ap (λ (l : List ℕ). over_at 56 (to_bytes 8 (8 * 84)) (set l 20 0x80)) e

-- is one block
pub digest-hashed : (h s : State) → compress h (digest_of s ++ padding 84) ≡ hash_all h (digest_of s ++ padding 84)
unfolding digest_of padding
digest-hashed h s = sym (hash-one h (digest_of s ++ padding 84) refl)

pub digest-after : (h s : State) → digest_of (hash_all h (digest_of s ++ padding 84)) ≡ sha1_after h 64 (digest_of s)
unfolding sha1_after digest_of
digest-after h s = refl
