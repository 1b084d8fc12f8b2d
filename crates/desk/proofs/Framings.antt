-- The packets of an input are those of RFC 4571: whole frames one after the other, those too long left out, and a cut frame at the end dropped.
-- Assumes nothing.
use Prim.Native.Nat.{ℕ, suc, ◌+◌, ◌≤◌, ◌<◌, ◌^◌, ◌%◌}
use mathlib.Core.Bool.{Bool, true, false, cond}
use mathlib.Core.List.{List, [], ◌∷◌, ◌++◌, append_assoc, append-nil}
use mathlib.Core.Path.{◌≡◌, refl, sym, ap, ap₂, subst, ◌∙◌}
use native.Mathlib.Omega.{arith}
use borrow.Author.Tests.{le-leb, leb-true, leb-false}
use lib.Dec.{leb}
use lib.ListN.{length, take, drop, get_or, length-append, drop_of_length-le}
use lib.Seq.{take_at, drop_at, split_at, length-take-le}
use Rattle.octets.specs.BigEndian.{to_bytes, from_bytes}
use Rattle.octets.proofs.BigEndianLaws.{length-to_bytes, from-to_bytes}
use Rattle.desk.specs.Framing.{framed, announced, whole, completed, packets_from, rest_from, packets, frames, Framed, Cut, not_too_long}
use Rattle.desk.proofs.FrameLaws.{announced-front, not-whole, none-completed, all-begun, none-begun, long-completed, short-completed}
use Rattle.desk.proofs.Splits.{packets-append}

-- ---- a frame that is not whole
-- what stands at the front of a cut frame is not whole either
module _ (f g : List ℕ) (c : Cut (f ++ g)) where
  cut_by : (t : Bool) → leb 2 (length f) ≡ t → Cut f
  cut_by true h = let n : 2 ≤ length f = leb-true 2 (length f) h in omega (arith, announced-front f g n, length-append f g)
  cut_by false h = omega (arith, leb-false 2 (length f) h)

  cut-front : Cut f
  cut-front = cut_by (leb 2 (length f)) refl

-- the bytes of a cut frame have no packet, and all of them stand
record Waits (f b : List ℕ) : Type 0 where
  none : packets_from f b ≡ []
  all : rest_from f b ≡ f ++ b

waits : (f b : List ℕ) → Cut (f ++ b) → Waits f b
waits f [] c = record { none = refl; all = sym (append-nil f) }
waits f (x ∷ b) c =
    let g : List ℕ = f ++ (x ∷ []) in
    let e : g ++ b ≡ f ++ (x ∷ b) = append_assoc f (x ∷ []) b in
    let d : Cut (g ++ b) = subst Cut (sym e) c in
    let w : whole g ≡ false = not-whole g (cut-front g b d) in
    let h : Waits g b = waits g b d in
    record {
      none = ap₂ (λ (ps : List (List ℕ)) (y : List ℕ). ps ++ packets_from y b) (none-completed g w) (all-begun g w) ∙ h.none;
      all = ap (λ (y : List ℕ). rest_from y b) (all-begun g w) ∙ h.all ∙ e;
    }

-- A cut frame at the end is dropped.
pub cut-dropped : (b : List ℕ) → Cut b → packets b ≡ []
cut-dropped b c = (waits [] b c).none

-- ---- a whole frame w = a ++ x at the front of an input, x its last byte
module _ (a : List ℕ) (x : ℕ) (c : Cut a) (w : whole (a ++ (x ∷ [])) ≡ true) (b : List ℕ) where
  last_byte : packets (a ++ (x ∷ b)) ≡ completed (a ++ (x ∷ [])) ++ packets b
  last_byte =
      let h : Waits [] a = waits [] a c in
      packets-append [] a (x ∷ b)
      ∙ ap₂ (λ (ps : List (List ℕ)) (y : List ℕ). ps ++ packets_from y (x ∷ b)) h.none h.all
      ∙ ap (λ (y : List ℕ). completed (a ++ (x ∷ [])) ++ packets_from y b) (none-begun (a ++ (x ∷ [])) w)

-- ---- the frame of a packet
module _ (p : List ℕ) (n : length p < 2 ^ 16) where
  abbrev f : List ℕ
  f = framed p

  framed-length : length f ≡ 2 + length p
  unfolding framed
  framed-length = length-append (to_bytes 2 (length p)) p ∙ ap (λ (k : ℕ). k + length p) (length-to_bytes 2 (length p))

  framed-tells : announced f ≡ length p
  unfolding framed announced
  framed-tells =
      let t : List ℕ = to_bytes 2 (length p) in
      let r : from_bytes t ≡ length p % 2 ^ 16 = from-to_bytes 2 (length p) in
      ap from_bytes (take_at t p 2 (length-to_bytes 2 (length p))) ∙ r ∙ omega arith

  framed-packet : drop 2 f ≡ p
  unfolding framed
  framed-packet = drop_at (to_bytes 2 (length p)) p 2 (length-to_bytes 2 (length p))

  framed-whole : whole f ≡ true
  framed-whole = le-leb (2 + announced f) (length f) (omega (arith, framed-length, framed-tells))

  abbrev a : List ℕ
  a = take (1 + length p) f

  abbrev x : ℕ
  x = get_or f (1 + length p) 0

  a-length : length a ≡ 1 + length p
  a-length = length-take-le (1 + length p) f (omega (arith, framed-length))

  parts : f ≡ a ++ (x ∷ [])
  parts =
      let s : f ≡ a ++ (x ∷ drop (suc (1 + length p)) f) = split_at f (1 + length p) 0 (omega (arith, framed-length)) in
      let l : length f ≤ suc (1 + length p) = omega (arith, framed-length) in
      s ∙ ap (λ (y : List ℕ). a ++ (x ∷ y)) (drop_of_length-le f l)

  a-cut-by : (t : Bool) → leb 2 (length a) ≡ t → Cut a
  a-cut-by true h =
      let m : 2 ≤ length a = leb-true 2 (length a) h in
      let e : announced a ≡ length p = sym (announced-front a (x ∷ []) m) ∙ ap announced (sym parts) ∙ framed-tells in
      omega (arith, a-length)
  a-cut-by false h = omega (arith, leb-false 2 (length a) h)

  -- A frame at the front gives its packet, if that is not too long; what follows is read as if the frame had not been there.
  pub frame-first : (b : List ℕ) → packets (f ++ b) ≡ cond (leb (length p) 2058) (p ∷ []) [] ++ packets b
  frame-first b =
      ap (λ (y : List ℕ). packets (y ++ b)) parts ∙ ap packets (append_assoc a (x ∷ []) b)
      ∙ last_byte a x (a-cut-by (leb 2 (length a)) refl) (ap whole (sym parts) ∙ framed-whole) b
      ∙ ap (λ (y : List ℕ). completed y ++ packets b) (sym parts) ∙ ap (λ (ps : List (List ℕ)). ps ++ packets b) (completes (leb (length p) 2058) refl)
    where
      completes : (t : Bool) → leb (length p) 2058 ≡ t → completed f ≡ cond (leb (length p) 2058) (p ∷ []) []
      completes true h =
          let m : length p ≤ 2058 = leb-true (length p) 2058 h in
          short-completed f framed-whole (omega (arith, framed-tells)) ∙ ap (λ (y : List ℕ). y ∷ []) framed-packet
          ∙ ap (λ (t : Bool). cond t (p ∷ []) []) (sym h)
      completes false h =
          let m : 2058 < length p = leb-false (length p) 2058 h in
          long-completed f framed-whole (omega (arith, framed-tells)) ∙ ap (λ (t : Bool). cond t (p ∷ []) []) (sym h)

-- ---- frames one after the other, and a cut one behind them
-- The packets of an input are those of its whole frames, without the ones that are too long.
pub frames-read : (ps : List (List ℕ)) (b : List ℕ) → Framed ps → Cut b → packets (frames ps ++ b) ≡ not_too_long ps
frames-read [] b n c = cut-dropped b c
frames-read (p ∷ ps) b n c =
    ap packets (append_assoc (framed p) (frames ps) b) ∙ frame-first p n.0 (frames ps ++ b)
    ∙ ap (λ (qs : List (List ℕ)). cond (leb (length p) 2058) (p ∷ []) [] ++ qs) (frames-read ps b n.1 c)
