-- A stream XORed into a buffer in place, part behind part. Assumes nothing.
use mathlib.Core.List.{List, [], ◌∷◌, ◌++◌, append_assoc}
use mathlib.Core.Path.{◌≡◌, refl, sym, ap, ap₂, ◌∙◌}
use Prim.Native.Nat.{ℕ, zero, suc, ◌+◌, ◌-◌, ◌<◌, ◌≤◌, min}
use native.Mathlib.Nat.{add-zero}
use native.Mathlib.Omega.{arith}
use lib.Bits.{bit_xor, xor_zero_l}
use lib.ListN.{length, take, drop, get_or, replicate, length-append, length-drop}
use lib.Seq.{take-add, take_all, take-take, take-append-le, drop-append-le, drop_at, drop-drop, length-take-le, get_or-drop}
use Rattle.octets.proofs.BigEndianLaws.{to_bytes-xor}
use Rattle.octets.proofs.BufferLaws.{over-whole, drop-over, over_at-append, over_at-part}
use Rattle.octets.proofs.XorLaws.{length-xors, take-xors, drop-xors}
use Rattle.octets.specs.BigEndian.{to_bytes}
use Rattle.octets.specs.Buffer.{over, over_at}
use Rattle.octets.specs.Xor.{xors}
use Rattle.transforms.specs.Steps.{xored_at}

-- what is not written yet is as it was
pub rest_over : (bs d : List ℕ) (i : ℕ) → i ≡ length bs → get_or (over bs d) i 0 ≡ get_or d i 0
rest_over bs d i e =
    ap (λ (k : ℕ). get_or (over bs d) k 0) (sym (add-zero i))
    ∙ sym (get_or-drop i (over bs d) 0 0)
    ∙ ap (λ (l : List ℕ). get_or l 0 0) (ap (λ (k : ℕ). drop k (over bs d)) e ∙ drop-over bs d ∙ ap (λ (k : ℕ). drop k d) (sym e))
    ∙ get_or-drop i d 0 0
    ∙ ap (λ (k : ℕ). get_or d k 0) (add-zero i)

drop-over_at : (at n : ℕ) (bs d : List ℕ) → n ≡ length bs → at + n ≤ length d → drop (at + n) (over_at at bs d) ≡ drop (at + n) d
unfolding over_at over
drop-over_at at n bs d e h =
    let l : length (take at d) ≡ at = length-take-le at d (omega arith) in
    let m : length (take at d ++ bs) ≡ at + n = length-append (take at d) bs ∙ ap₂ ◌+◌ l (sym e) in
    let rest : List ℕ = drop (length bs) (drop at d) in
    ap (drop (at + n)) (sym (append_assoc (take at d) bs rest))
    ∙ drop_at (take at d ++ bs) rest (at + n) m
    ∙ ap (λ (k : ℕ). drop k (drop at d)) (sym e)
    ∙ drop-drop n at d

-- no more of the stream than is asked for
pub xors-take : (n : ℕ) (xs ys : List ℕ) → xors xs (take n ys) ≡ take n (xors xs ys)
xors-take n [] ys = sym (none n)
  where
    none : (n : ℕ) → ◌≡◌ {A = List ℕ} (take n []) []
    none zero = refl
    none (suc n) = refl
xors-take zero (x ∷ xs) [] = refl
xors-take zero (x ∷ xs) (y ∷ ys) = refl
xors-take (suc n) (x ∷ xs) [] = refl
xors-take (suc n) (x ∷ xs) (y ∷ ys) = ap (λ (l : List ℕ). bit_xor x y ∷ l) (xors-take n xs ys)

pub xored-same : (at n : ℕ) (s s' d : List ℕ) → take n s ≡ take n s' → xored_at at n s d ≡ xored_at at n s' d
xored-same at n s s' d e =
    ap (λ (l : List ℕ). over_at at l d) (sym (xors-take n (drop at d) s) ∙ ap (xors (drop at d)) e ∙ xors-take n (drop at d) s')

-- m bytes more, behind the first n
pub xored-behind : (at n m : ℕ) (s d : List ℕ) → n ≤ length s → at + n ≤ length d
    → xored_at (at + n) m (drop n s) (xored_at at n s d) ≡ xored_at at (n + m) s d
xored-behind at n m s d h k =
    let x : List ℕ = xors (drop at d) s in
    let l : n ≡ length (take n x) = sym (length-take-le n x (omega (arith, length-xors (drop at d) s, length-drop at d))) in
    let rest : xors (drop (at + n) (over_at at (take n x) d)) (drop n s) ≡ drop n x =
    ap (λ (y : List ℕ). xors y (drop n s)) (drop-over_at at n (take n x) d l k ∙ sym (drop-drop n at d)) ∙ sym (drop-xors n (drop at d) s) in
    ap (λ (y : List ℕ). over_at (at + n) (take m y) (over_at at (take n x) d)) rest
    ∙ over_at-append at n (take n x) (take m (drop n x)) d l k
    ∙ ap (λ (y : List ℕ). over_at at y d) (sym (take-add n m x))

-- two streams, one behind the other
pub xored-both : (at n m : ℕ) (a b d d₁ d₂ : List ℕ) → length a ≡ n → at + n ≤ length d → d₁ ≡ xored_at at n a d → d₂ ≡ xored_at (at + n) m b d₁
    → d₂ ≡ xored_at at (n + m) (a ++ b) d
xored-both at n m a b d d₁ d₂ l k e f =
    let first : d₁ ≡ xored_at at n (a ++ b) d = e ∙ xored-same at n a (a ++ b) d (sym (take-append-le n a b (omega arith))) in
    f ∙ ap₂ (λ (x y : List ℕ). xored_at (at + n) m x y) (sym (drop_at a b n l)) first
    ∙ xored-behind at n m (a ++ b) d (omega (arith, length-append a b)) k

-- nothing, and all
pub xored-none : (s d : List ℕ) → d ≡ xored_at 0 0 s d
unfolding over_at over
xored-none s d = refl

pub xored-all : (n : ℕ) (s d : List ℕ) → n ≡ length d → n ≤ length s → xored_at 0 n s d ≡ xors d s
unfolding over_at
xored-all n s d e h =
    let l : length (xors d s) ≡ length d = omega (arith, length-xors d s) in
    ap (λ (x : List ℕ). over x d) (take_all n (xors d s) (omega arith)) ∙ over-whole (xors d s) d (omega arith)

-- a word, read and written back
pub word_in : (at x v : ℕ) (d d' : List ℕ) → to_bytes 4 x ≡ take 4 (drop at d) → d' ≡ over_at at (to_bytes 4 (bit_xor x v)) d → d' ≡ xored_at at 4 (to_bytes 4 v) d
word_in at x v d d' e f =
    f ∙ ap (λ (l : List ℕ). over_at at l d)
    (to_bytes-xor 4 x v ∙ ap (λ (l : List ℕ). xors l (to_bytes 4 v)) e ∙ sym (take-xors 4 (drop at d) (to_bytes 4 v)))

-- bytes of b, where a callee writes the rest of the buffer: x is what it leaves there
pub part_in : (out b x : List ℕ) (at from n : ℕ) → at ≤ length out
    → x ≡ over (xors (take (length out - at) (drop at out)) (take (from + n - from) (drop from b))) (take (length out - at) (drop at out))
    → take at out ++ (x ++ drop (length out - at) (drop at out)) ≡ xored_at at (at + n - at) (drop from b) out
part_in out b x at from n h e =
    let k : ℕ = length out - at in
    let rest : take k (drop at out) ≡ drop at out = take_all k (drop at out) (omega (arith, length-drop at out)) in
    let p : from + n - from ≡ at + n - at = omega arith in
    ap (λ (l : List ℕ). take at out ++ (l ++ drop k (drop at out))) e
    ∙ over_at-part at k (xors (take k (drop at out)) (take (from + n - from) (drop from b))) out (omega arith)
    ∙ ap₂ (λ (y : List ℕ) (i : ℕ). over_at at (xors y (take i (drop from b))) out) rest p
    ∙ ap (λ (l : List ℕ). over_at at l out) (xors-take (at + n - at) (drop at out) (drop from b))

-- bytes of a block a, and behind them bytes of a block b, where the buffer reaches behind a: those end at i, and these at r
first-end : (from at i l : ℕ) → from < 16 → at + 16 < from + l → i ≡ at + min (16 - from) (l - at) → i ≡ at + (16 - from)
first-end from at i l h k e = omega arith

behind : (from at i r n : ℕ) → n ≡ 16 - from → i ≡ at + n → i ≤ r → n + (r - i) ≡ r - at
behind from at i r n e f h = omega arith

pub pair-in : (out out₁ out₂ a b : List ℕ) (from at i r : ℕ) → length a ≡ 16 → from < 16 → at + 16 < from + length out
    → i ≡ at + min (16 - from) (length out - at) → i ≤ r → out₁ ≡ xored_at at (i - at) (drop from a) out → out₂ ≡ xored_at i (r - i) b out₁
    → out₂ ≡ xored_at at (r - at) (drop from (a ++ b)) out
pair-in out out₁ out₂ a b from at i r l h k ei g e f =
    let n : ℕ = 16 - from in
    let p : i ≡ at + n = first-end from at i (length out) h k ei in
    let q : i - at ≡ n = ap (λ (j : ℕ). j - at) p ∙ add_sub_cancel_left at n in
    let m : length (drop from a) ≡ n = length-drop from a ∙ ap (λ (j : ℕ). j - from) l in
    xored-both at n (r - i) (drop from a) b out out₁ out₂ m (reach from at (length out) h k) (e ∙ ap (λ (j : ℕ). xored_at at j (drop from a) out) q)
    (f ∙ ap (λ (j : ℕ). xored_at j (r - i) b out₁) p)
    ∙ ap₂ (λ (j : ℕ) (s : List ℕ). xored_at at j s out) (behind from at i r n refl p g) (sym (drop-append-le from a b (omega arith)))
  where
    reach : (from at l : ℕ) → from < 16 → at + 16 < from + l → at + (16 - from) ≤ l
    reach from at l h k = omega arith

    add_sub_cancel_left : (x y : ℕ) → x + y - x ≡ y
    add_sub_cancel_left x y = omega arith

-- n bytes of the buffer, all under n bytes of a stream: x is what a callee leaves there
pub series-in : (out s x : List ℕ) (at n : ℕ) → at + n ≤ length out → n ≤ length s → x ≡ xors (take n (drop at out)) (take n s)
    → take at out ++ (x ++ drop n (drop at out)) ≡ xored_at at n s out
unfolding over_at over
series-in out s x at n h k e =
    let d : List ℕ = drop at out in
    let y : List ℕ = take n (xors d s) in
    let l : length y ≡ n = length-take-le n (xors d s) (omega (arith, length-xors d s, length-drop at out)) in
    let both : x ≡ y =
    e ∙ sym (take-xors n d (take n s)) ∙ ap (take n) (xors-take n d s) ∙ take-take n n (xors d s) (omega arith) in
    ap (λ (z : List ℕ). take at out ++ (z ++ drop n d)) both ∙ ap (λ (i : ℕ). take at out ++ (y ++ drop i d)) (sym l)

-- ---- zeros

pub zeros-xors : (s : List ℕ) (n : ℕ) → n ≡ length s → xors (replicate n 0) s ≡ s
zeros-xors [] n e = ap (λ (k : ℕ). xors (replicate k 0) []) e
zeros-xors (x ∷ s) zero e = let z : ⊥ = omega arith in absurd z
zeros-xors (x ∷ s) (suc n) e = ap₂ (λ (y : ℕ) (l : List ℕ). y ∷ l) (xor_zero_l x) (zeros-xors s n (omega arith))
