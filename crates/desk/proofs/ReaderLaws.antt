-- The ways out of the reader's functions. Assumes nothing.
use Rattle.std.specs.Prelude.{Some}
use Prim.Native.Nat.{ℕ, zero, suc, ◌+◌, ◌*◌, ◌-◌, ◌%◌, ◌^◌, ◌≤◌, ◌<◌}
use mathlib.Core.Bool.{Bool, true, false, cond}
use mathlib.Core.List.{List, [], ◌∷◌, ◌++◌, append_assoc}
use mathlib.Core.Path.{◌≡◌, refl, sym, ap, ap₂, subst, ◌∙◌}
use native.Mathlib.Omega.{arith}
use borrow.Author.Tests.{le-leb, lt-leb, leb-true, leb-false}
use lib.Dec.{leb}
use lib.ListN.{length, take, drop, get_or, replicate, length-append, length-replicate, take-append-drop}
use lib.Seq.{drop-append-le, drop_at, drop-cons, drop-drop, take_at, length-take-le}
use Rattle.std.proofs.lemmas.List.{take_rest}
use Rattle.octets.specs.BigEndian.{to_bytes, from_bytes}
use Rattle.octets.specs.Buffer.{over, over_at}
use Rattle.octets.proofs.BufferLaws.{over_at-part}
use Rattle.octets.proofs.BigEndianLaws.{length-to_bytes, from-to_bytes}
use Rattle.desk.specs.Framing.{announced, whole, completed, begun, packets_from, rest_from}
use Rattle.desk.specs.Reads.{Gathers, Holds, Standing, Passes, Steps, Takes}
use Rattle.desk.specs.declared.framing.Reader.{Reader}
use Rattle.desk.proofs.FrameLaws.{announced-front, none-completed, all-begun, none-begun, long-completed, short-completed, bytes-pass}

-- ---- Reader::start
nothing-held : (kept : List ℕ) → Holds (record { got = 0; len = 0 }) kept []
unfolding announced
nothing-held kept =
    record {
      gathers = record { got = refl; high = λ h. omega arith; len = λ h. omega arith; bytes = λ h. refl };
      cut = omega arith;
    }

-- ---- Frame::start
pub none-held : (r : Reader) (kept : List ℕ) → r ≡ record { got = 0; len = 0 } → Holds r kept []
none-held r kept e = subst (λ (x : Reader). Holds x kept []) (sym e) (nothing-held kept)

-- ---- Reader::step: a byte of the length
module _ (r : Reader) (kept : List ℕ) (b : ℕ) (l : b < 256) where
  abbrev told : Reader
  told = record { got = r.got + 1; len = r.len % 256 * 256 + b }

  length-gathered : r.got < 2 → (f : List ℕ) → Holds r kept f → Gathers told kept (f ++ (b ∷ []))
  unfolding announced
  length-gathered g [] h =
      let e : r.got ≡ 0 = h.gathers.got in
      record { got = omega arith; high = λ k. omega arith; len = λ k. omega arith; bytes = λ k. refl }
  length-gathered g (a ∷ []) h =
      let e : r.got ≡ 1 = h.gathers.got in
      let n : r.len % 256 ≡ a * 1 + 0 = h.gathers.high refl in
      record { got = omega arith; high = λ k. omega arith; len = λ k. omega arith; bytes = λ k. refl }
  length-gathered g (a ∷ x ∷ f) h =
      let e : r.got ≡ suc (suc (length f)) = h.gathers.got in
      absurd (omega arith)

  pub length-step : (input : List ℕ) → 0 < length input → b ≡ get_or input 0 0 → r.got < 2 → (f : List ℕ) → Holds r kept f
      → Steps f input told kept (drop 1 input)
  length-step input i e g f h =
      let next : input ≡ b ∷ drop 1 input = subst (λ (x : ℕ). input ≡ x ∷ drop 1 input) (sym e) (drop-cons input 0 0 i) in
      let n : r.got ≡ length f = h.gathers.got in
      record {
        more = f ++ (b ∷ []);
        gathers = length-gathered g f h;
        within = omega (arith, length-append f (b ∷ []));
        passes = record { packets = ap (packets_from f) next; rest = ap (rest_from f) next };
      }

-- ---- Reader::fill: bytes of the packet
-- x is the part of the kept bytes from the place on, with those given over its start
pub kept-over : (r : Reader) (bytes kept x : List ℕ) (m : ℕ) → r.len ≤ 2058 → m ≡ length kept - (r.got - 2)
    → x ≡ over bytes (take m (drop (r.got - 2) kept))
    → take (r.got - 2) kept ++ (x ++ drop m (drop (r.got - 2) kept)) ≡ cond (leb r.len 2058) (over_at (r.got - 2) bytes kept) kept
kept-over r bytes kept x m l e o =
    let at : ℕ = r.got - 2 in
    ap (λ (y : List ℕ). take at kept ++ (y ++ drop m (drop at kept))) o ∙ over_at-part at m bytes kept e
    ∙ sym (ap (λ (t : Bool). cond t (over_at at bytes kept) kept) (le-leb r.len 2058 l))

pub kept-all : (r : Reader) (bytes kept : List ℕ) → 2058 < r.len → kept ≡ cond (leb r.len 2058) (over_at (r.got - 2) bytes kept) kept
kept-all r bytes kept l = rw (lt-leb r.len 2058 l)

module _ (r : Reader) (kept g : List ℕ) (two : 2 ≤ r.got) (fits : r.got + length g ≤ 2 + r.len) (room : 2058 ≤ length kept)
    (f : List ℕ) (h : Holds r kept f) where
  count : r.got ≡ length f
  count = h.gathers.got

  two-of : 2 ≤ length f
  two-of = let e : r.got ≡ length f = count in omega arith

  told_of : r.len ≡ announced f
  told_of = h.gathers.len two-of

  abbrev kept' : List ℕ
  kept' = cond (leb r.len 2058) (over_at (r.got - 2) g kept) kept

  kept-bytes : announced (f ++ g) ≤ 2058 → take (length (f ++ g) - 2) kept' ≡ drop 2 (f ++ g)
  unfolding over over_at
  kept-bytes m =
      let e : r.got ≡ length f = count in
      let t : r.len ≡ announced f = told_of in
      let a : announced (f ++ g) ≡ announced f = announced-front f g two-of in
      let at : ℕ = r.got - 2 in
      let short : r.len ≤ 2058 = omega arith in
      let back : length f - 2 ≡ at = omega arith in
      let held : take at kept ≡ drop 2 f = subst (λ (x : ℕ). take x kept ≡ drop 2 f) back (h.gathers.bytes (omega arith)) in
      let size : length (take at kept) ≡ at = length-take-le at kept (omega arith) in
      let both : length (take at kept ++ g) ≡ length (f ++ g) - 2 =
      length-append (take at kept) g ∙ omega (arith, length-append f g) in
      let tail : List ℕ = drop (length g) (drop at kept) in
      ap (λ (t : Bool). take (length (f ++ g) - 2) (cond t (take at kept ++ (g ++ tail)) kept)) (le-leb r.len 2058 short)
      ∙ ap (take (length (f ++ g) - 2)) (sym (append_assoc (take at kept) g tail))
      ∙ take_at (take at kept ++ g) tail (length (f ++ g) - 2) both
      ∙ ap (λ (x : List ℕ). x ++ g) held ∙ sym (drop-append-le 2 f g two-of)

  bytes-gathered : Gathers (record { got = r.got + length g; len = r.len }) kept' (f ++ g)
  bytes-gathered =
      let e : r.got ≡ length f = count in
      let t : r.len ≡ announced f = told_of in
      let two' : 2 ≤ length f = two-of in
      record {
        got = omega (arith, length-append f g);
        high = λ k. absurd (omega (arith, length-append f g));
        len = λ k. t ∙ sym (announced-front f g two-of);
        bytes = kept-bytes;
      }

  passed : 0 < length g → (c : List ℕ) → Passes f (g ++ c) (completed (f ++ g)) (begun (f ++ g)) c
  passed n c = by g refl
    where
      by : (y : List ℕ) → y ≡ g → Passes f (g ++ c) (completed (f ++ g)) (begun (f ++ g)) c
      by [] e = absurd (omega (arith, ap length e))
      by (x ∷ y) e =
          let q : r.got ≡ length f = count in
          let t : r.len ≡ announced f = told_of in
          subst (λ (w : List ℕ). Passes f (w ++ c) (completed (f ++ w)) (begun (f ++ w)) c) e
          (bytes-pass f x y c two-of (omega (arith, length-append f (x ∷ y), ap length e)))

  pub bytes-step : 0 < length g → (c b : List ℕ) → b ≡ g ++ c → Steps f b (record { got = r.got + length g; len = r.len }) kept' c
  bytes-step n c b e =
      let q : r.got ≡ length f = count in
      let t : r.len ≡ announced f = told_of in
      record {
        more = f ++ g;
        gathers = bytes-gathered;
        within = omega (arith, length-append f g, announced-front f g two-of);
        passes = subst (λ (x : List ℕ). Passes f x (completed (f ++ g)) (begun (f ++ g)) c) (sym e) (passed n c);
      }

-- the first n bytes of the input
pub filled : (r : Reader) (kept input : List ℕ) (n : ℕ) → 2 ≤ r.got → r.got + n ≤ 2 + r.len → 0 < n → n ≤ length input → 2058 ≤ length kept
    → (x : List ℕ) → x ≡ cond (leb r.len 2058) (over_at (r.got - 2) (take n input) kept) kept
    → (f : List ℕ) → Holds r kept f → Steps f input (record { got = r.got + n; len = r.len }) x (drop n input)
filled r kept input n two fits some i room x k f h =
    let g : List ℕ = take n input in
    let size : length g ≡ n = length-take-le n input i in
    subst (λ (y : ℕ). Steps f input (record { got = r.got + y; len = r.len }) x (drop n input)) size
    (subst (λ (y : List ℕ). Steps f input (record { got = r.got + length g; len = r.len }) y (drop n input)) (sym k)
    (bytes-step r kept g two (omega arith) room f h (omega arith) (drop n input) input (sym (take-append-drop n input))))

-- ---- Reader::take
-- the loop so far: from f and the bytes b, reader and kept bytes came to the bytes c, and no packet was found
pub record Came (f b : List ℕ) (r : Reader) (kept c : List ℕ) : Type 0 where
  pub begun : List ℕ
  pub holds : Holds r kept begun
  pub passes : Passes f b [] begun c

-- one step: reader and kept bytes were r and d at place at of the input, and are s and e count bytes on
module _ (f b input : List ℕ) (at count : ℕ) (r s : Reader) (d e : List ℕ) (came : Came f b r d (drop at input))
    (steps : (g : List ℕ) → Holds r d g → Steps g (take (length input - at) (drop at input)) s e (drop count (take (length input - at) (drop at input)))) where
  abbrev c : List ℕ
  c = drop (at + count) input

  step : Steps came.begun (drop at input) s e c
  step =
      subst (λ (y : List ℕ). Steps came.begun (drop at input) s e y) (drop-drop count at input)
      (subst (λ (y : List ℕ). Steps came.begun y s e (drop count y)) (take_rest input at) (steps came.begun came.holds))

  abbrev g : List ℕ
  g = step.more

  gathered : Gathers s e g
  gathered = step.gathers

  stepped : Passes f b (completed g) (begun g) c
  stepped =
      record {
        packets = came.passes.packets ∙ step.passes.packets;
        rest = came.passes.rest ∙ step.passes.rest;
      }

  -- the code's test is that of the definition
  tested-by : (t : Bool) → leb 2 (length g) ≡ t → leb (2 + s.len) s.got ≡ whole g
  tested-by true h =
      ap₂ (λ (x y : ℕ). leb (2 + x) y) (gathered.len (leb-true 2 (length g) h)) gathered.got
  tested-by false h =
      let l : length g < 2 = leb-false 2 (length g) h in
      let n : s.got ≡ length g = gathered.got in
      lt-leb (2 + s.len) s.got (omega arith) ∙ sym (lt-leb (2 + announced g) (length g) (omega arith))

  tested : (t : Bool) → leb (2 + s.len) s.got ≡ t → whole g ≡ t
  tested t h = sym (tested-by (leb 2 (length g)) refl) ∙ h

  pub came-more : leb (2 + s.len) s.got ≡ false → Came f b s e c
  came-more h =
      let w : whole g ≡ false = tested false h in
      record {
        begun = g;
        holds = record { gathers = gathered; cut = omega (arith, leb-false (2 + announced g) (length g) w) };
        passes = subst (λ (ps : List (List ℕ)). Passes f b ps g c) (none-completed g w)
            (subst (λ (x : List ℕ). Passes f b (completed g) x c) (all-begun g w) stepped);
      }

  module _ (h : leb (2 + s.len) s.got ≡ true) (z : Reader) (zh : z ≡ record { got = 0; len = 0 }) (n : ℕ) (nh : n ≡ s.len) where
    w : whole g ≡ true
    w = tested true h

    full : 2 + announced g ≤ length g
    full = leb-true (2 + announced g) (length g) w

    told-length : n ≡ announced g
    told-length = let l : 2 + announced g ≤ length g = full in nh ∙ gathered.len (omega arith)

    emptied : Passes f b (completed g) [] c
    emptied = subst (λ (x : List ℕ). Passes f b (completed g) x c) (none-begun g w) stepped

    pub came-past : 2058 < n → Came f b z e c
    came-past l =
        let q : n ≡ announced g = told-length in
        record {
          begun = [];
          holds = none-held z e zh;
          passes = subst (λ (ps : List (List ℕ)). Passes f b ps [] c) (long-completed g w (omega arith)) emptied;
        }

    pub takes-packet : n ≤ 2058 → Takes f b input (record { next = z; at = at + count; found = Some n }) e
    takes-packet l =
        let q : n ≡ announced g = told-length in
        let m : announced g ≤ 2058 = omega arith in
        let x : length g - 2 ≡ n = omega (arith, full, step.within) in
        let o : take n e ≡ drop 2 g = ap (λ (i : ℕ). take i e) (sym x) ∙ gathered.bytes m in
        record {
          begun = [];
          holds = none-held z e zh;
          passes = subst (λ (ps : List (List ℕ)). Passes f b ps [] c) (short-completed g w m ∙ ap (λ (p : List ℕ). p ∷ []) (sym o)) emptied;
        }

-- a reader that goes on holds no whole frame
pub started-cut : (z : Reader) → z ≡ record { got = 0; len = 0 } → z.got ≤ 1 + z.len
started-cut z e = subst (λ (x : Reader). x.got ≤ 1 + x.len) (sym e) (omega arith)

pub left_cut : (s : Reader) → leb (2 + s.len) s.got ≡ false → s.got ≤ 1 + s.len
left_cut s h = omega (arith, leb-false (2 + s.len) s.got h)

-- ---- whatever number of bytes a reader has, if they are no whole frame there are bytes that it holds
module _ (r : Reader) (kept : List ℕ) (n : ℕ) (e : r.got ≡ 2 + n) (c : r.got ≤ 1 + r.len) (u : r.len < 2 ^ 16) where
  holds_after : (g : List ℕ) → length g ≡ n → (r.len ≤ 2058 → take n kept ≡ g) → Holds r kept (to_bytes 2 r.len ++ g)
  unfolding announced
  holds_after g m k =
      let t : List ℕ = to_bytes 2 r.len in
      let two : length t ≡ 2 = length-to_bytes 2 r.len in
      let size : length (t ++ g) ≡ 2 + n = length-append t g ∙ omega arith in
      let back : from_bytes t ≡ r.len % 2 ^ 16 = from-to_bytes 2 r.len in
      let tells : announced (t ++ g) ≡ r.len = ap from_bytes (take_at t g 2 two) ∙ back ∙ omega arith in
      let left : length (t ++ g) - 2 ≡ n = omega arith in
      record {
        gathers = record {
          got = e ∙ sym size;
          high = λ h. absurd (omega arith);
          len = λ h. sym tells;
          bytes = λ h. ap (λ (x : ℕ). take x kept) left ∙ k (omega arith) ∙ sym (drop_at t g 2 two);
        };
        cut = omega arith;
      }

  pub holds-bytes : 2058 ≤ length kept → (t : Bool) → leb r.len 2058 ≡ t → Standing r kept
  holds-bytes room true h =
      let l : r.len ≤ 2058 = leb-true r.len 2058 h in
      record { begun = _; holds = holds_after (take n kept) (length-take-le n kept (omega arith)) (λ x. refl) }
  holds-bytes room false h =
      let l : 2058 < r.len = leb-false r.len 2058 h in
      record { begun = _; holds = holds_after (replicate n 0) (length-replicate n 0) (λ x. absurd (omega arith)) }

module _ (r : Reader) (kept : List ℕ) (c : r.got ≤ 1 + r.len) (u : r.len < 2 ^ 16) (room : 2058 ≤ length kept) where
  stands_by : (n : ℕ) → r.got ≡ n → Standing r kept
  unfolding announced
  stands_by zero e =
      record {
        begun = [];
        holds = record {
          gathers = record { got = e; high = λ h. omega arith; len = λ h. omega arith; bytes = λ h. refl };
          cut = omega arith;
        };
      }
  stands_by (suc zero) e =
      record {
        begun = r.len % 256 ∷ [];
        holds = record {
          gathers = record { got = e; high = λ h. omega arith; len = λ h. omega arith; bytes = λ h. refl };
          cut = omega arith;
        };
      }
  stands_by (suc (suc n)) e = holds-bytes r kept n (omega arith) c u room (leb r.len 2058) refl

  pub stands : Standing r kept
  stands = stands_by r.got refl
