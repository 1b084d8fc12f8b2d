-- Laws of the index arithmetic: `distance` is the one distance there is; an index within reach is the one that its number names; an
-- index that is estimated or sent has the packet's number; what each answer says of the tests behind it. Assumes nothing.
use mathlib.Core.Path.{◌≡◌, refl, sym, ap, ◌∙◌}
use mathlib.Core.Bool.{Bool, true, false, cond, ◌||◌, true≢false}
use Prim.Native.Nat.{ℕ, suc, ◌+◌, ◌-◌, ◌≤◌, ◌<◌}
use native.Mathlib.Omega.{arith}
use lib.Dec.{leb, ltb, eqb}
use lib.IntN.{ℤ, pos, negsuc}
use borrow.Author.Tests.{ltb-true, ltb-false, leb-true, leb-false, lt-ltb, le-ltb, le-leb, lt-leb, eqb-false}
use Rattle.std.specs.Prelude.{Option, None, Some, Result, Ok, Err}
use Rattle.replay.specs.Index.{index_of, rollover_of, number_of, max_media_index, max_control_index, max_control_packets, ahead, distance, IsDistance, estimate, placed, Near, next_index, out_of_order, next_media, next_control}
use Rattle.replay.specs.declared.index.OutOfRange.{OutOfRange}
use Rattle.replay.specs.declared.index.OutOfRange.TheVariants as out_of_range
use Rattle.replay.specs.declared.index.NoIndex.{NoIndex}
use Rattle.replay.specs.declared.index.NoIndex.TheVariants as no_index

pub index-parts : (i : ℕ) → index_of (rollover_of i) (number_of i) ≡ i
index-parts i = omega arith

-- ---- the distance, by how far ahead the number lies
module _ (h q : ℕ) where
  pub distance-ahead : ahead h q ≤ 32768 → distance h q ≡ pos (ahead h q)
  distance-ahead l = rw (le-leb (ahead h q) 32768 l)

  pub distance-behind : 32768 < ahead h q → distance h q ≡ negsuc (65535 - ahead h q)
  distance-behind l =
      let b : ahead h q < 65536 = omega arith in
      let e : 65536 - suc (ahead h q) ≡ 65535 - ahead h q = omega arith in
      rw (lt-leb (ahead h q) 32768 l, lt-ltb (ahead h q) 65536 b) (ap negsuc e)

  pub distance_is : q < 65536 → IsDistance h q (distance h q)
  distance_is hq = go (leb (ahead h q) 32768) refl
    where
      go : (b : Bool) → leb (ahead h q) 32768 ≡ b → IsDistance h q (distance h q)
      go true e =
          let l : ahead h q ≤ 32768 = leb-true _ _ e in
          rw (distance-ahead l) (record { in_range = l; leads = omega arith })
      go false e =
          let l : 32768 < ahead h q = leb-false _ _ e in
          rw (distance-behind l) (record { in_range = omega arith; leads = omega arith })

  pub distance-only : (d : ℤ) → q < 65536 → IsDistance h q d → distance h q ≡ d
  distance-only (pos f) hq i =
      let l = i.in_range in
      let m = i.leads in
      let e : ahead h q ≡ f = omega arith in
      distance-ahead (omega arith) ∙ ap pos e
  distance-only (negsuc g) hq i =
      let l = i.in_range in
      let m = i.leads in
      let e : 65535 - ahead h q ≡ g = omega arith in
      distance-behind (omega arith) ∙ ap negsuc e

-- ---- the estimate with H present
module _ (r h q : ℕ) where
  pub estimate-ahead : ahead h q ≤ 32768 → estimate r q (Some h) ≡ pos (h + ahead h q)
  estimate-ahead l = rw (distance-ahead h q l)

  pub estimate-behind : 32768 < ahead h q → 65536 - ahead h q ≤ h → estimate r q (Some h) ≡ pos (h - (65536 - ahead h q))
  estimate-behind l m =
      let b : ahead h q < 65536 = omega arith in
      let s : suc (65535 - ahead h q) ≡ 65536 - ahead h q = omega arith in
      rw (distance-behind h q l, s, le-ltb h (65536 - ahead h q) m)

  pub estimate-below : 32768 < ahead h q → h < 65536 - ahead h q → estimate r q (Some h) ≡ negsuc (65536 - ahead h q - suc h)
  estimate-below l m =
      let b : ahead h q < 65536 = omega arith in
      let s : suc (65535 - ahead h q) ≡ 65536 - ahead h q = omega arith in
      rw (distance-behind h q l, s, lt-ltb h (65536 - ahead h q) m)

-- an index within reach is the one that its number names
pub estimate-near : (n r : ℕ) (h : Option ℕ) (i : ℕ) → n ≤ 32768 → Near n r h i → estimate r (number_of i) h ≡ pos i
estimate-near n r None i l w = ap pos (omega arith)
estimate-near n r (Some h) i l w = go (leb (ahead h (number_of i)) 32768) refl
  where
    go : (b : Bool) → leb (ahead h (number_of i)) 32768 ≡ b → estimate r (number_of i) (Some h) ≡ pos i
    go true e =
        let m : ahead h (number_of i) ≤ 32768 = leb-true _ _ e in
        estimate-ahead r h (number_of i) m ∙ ap pos (omega arith)
    go false e =
        let m : 32768 < ahead h (number_of i) = leb-false _ _ e in
        estimate-behind r h (number_of i) m (omega arith) ∙ ap pos (omega arith)

-- so is one at most 32,767 behind H or 32,767 ahead of it
pub number-names : (r h i : ℕ) → h ≤ i + 32767 → i ≤ h + 32767 → estimate r (number_of i) (Some h) ≡ pos i
number-names r h i b a = estimate-near 32768 r (Some h) i (omega arith) (omega arith, a)

-- an index that is estimated has the packet's number
pub estimate-number : (r q : ℕ) (h : Option ℕ) (i : ℕ) → q < 65536 → estimate r q h ≡ pos i → q ≡ number_of i
estimate-number r q None i l e = let z : index_of r q ≡ i = cc in omega arith
estimate-number r q (Some h) i l e = go (leb (ahead h q) 32768) refl (ltb h (65536 - ahead h q)) refl
  where
    is_natural : ℤ → Bool
    is_natural (pos x) = true
    is_natural (negsuc x) = false

    go : (b : Bool) → leb (ahead h q) 32768 ≡ b → (t : Bool) → ltb h (65536 - ahead h q) ≡ t → q ≡ number_of i
    go true x t y =
        let z : pos (h + ahead h q) ≡ pos i = sym (estimate-ahead r h q (leb-true _ _ x)) ∙ e in
        let w : h + ahead h q ≡ i = cc in
        omega arith
    go false x true y =
        let z = sym (estimate-below r h q (leb-false _ _ x) (ltb-true _ _ y)) ∙ e in
        absurd (true≢false (sym (ap is_natural z)))
    go false x false y =
        let m : 65536 - ahead h q ≤ h = ltb-false _ _ y in
        let k : 32768 < ahead h q = leb-false _ _ x in
        let z : pos (h - (65536 - ahead h q)) ≡ pos i = sym (estimate-behind r h q k m) ∙ e in
        let w : h - (65536 - ahead h q) ≡ i = cc in
        omega arith

-- what the answer says of the estimate
abbrev pub PlacedAs : ℤ → Result ℕ OutOfRange → Type 0
PlacedAs k (Ok i) = (k ≡ pos i) × (i ≤ max_media_index)
PlacedAs k (Err out_of_range.Old) = (j : ℕ) × (k ≡ negsuc j)
PlacedAs k (Err out_of_range.Spent) = (i : ℕ) × (k ≡ pos i) × (max_media_index < i)

pub placed-as : (k : ℤ) → PlacedAs k (placed k)
placed-as (negsuc j) = (j, refl)
placed-as (pos i) = go (ltb max_media_index i) refl
  where
    go : (b : Bool) → ltb max_media_index i ≡ b → PlacedAs (pos i) (cond b (Err out_of_range.Spent) (Ok i))
    go true e = (i, refl, ltb-true _ _ e)
    go false e = (refl, ltb-false _ _ e)

-- ---- sending
-- the index of a packet that is sent has its number
pub sent-number : (l : Option ℕ) (q : ℕ) → q < 65536 → q ≡ number_of (next_index l q)
sent-number None q h = omega arith
sent-number (Some i) q h = omega arith

-- in order, indices only rise: a sender uses none twice
pub sent-rises : (i q : ℕ) → out_of_order (Some i) q ≡ false → i < next_index (Some i) q
sent-rises i q = go (eqb (ahead i q) 0) refl
  where
    go : (b : Bool) → eqb (ahead i q) 0 ≡ b → (b || leb 32768 (ahead i q)) ≡ false → i < i + ahead i q
    go true e o = absurd (true≢false o)
    go false e o = let z : ahead i q ≡ 0 → ⊥ = eqb-false _ _ e in omega (arith, z)

-- and by less than 32,768
pub sent-near : (i q : ℕ) → out_of_order (Some i) q ≡ false → next_index (Some i) q < i + 32768
sent-near i q = go (eqb (ahead i q) 0)
  where
    go : (b : Bool) → (b || leb 32768 (ahead i q)) ≡ false → i + ahead i q < i + 32768
    go true o = absurd (true≢false o)
    go false o = let z : ahead i q < 32768 = leb-false _ _ o in omega (arith, z)

-- what the answers say of the tests
abbrev pub MediaAs : Option ℕ → (number : ℕ) → Result ℕ NoIndex → Type 0
MediaAs l q (Ok i) = (out_of_order l q ≡ false) × (next_index l q ≡ i) × (i ≤ max_media_index)
MediaAs l q (Err no_index.Order) = out_of_order l q ≡ true
MediaAs l q (Err no_index.Spent) = (out_of_order l q ≡ false) × (max_media_index < next_index l q)

pub media-as : (l : Option ℕ) (q : ℕ) → MediaAs l q (next_media l q)
media-as l q = go (out_of_order l q) refl (ltb max_media_index (next_index l q)) refl
  where
    go : (b : Bool) → out_of_order l q ≡ b → (t : Bool) → ltb max_media_index (next_index l q) ≡ t →
        MediaAs l q (cond b (Err no_index.Order) (cond t (Err no_index.Spent) (Ok (next_index l q))))
    go true e t f = e
    go false e true f = (e, ltb-true _ _ f)
    go false e false f = (e, refl, ltb-false _ _ f)

abbrev pub ControlAs : (sent : ℕ) → Result ℕ NoIndex → Type 0
ControlAs n (Ok i) = (n ≡ i) × (i ≤ max_control_index)
ControlAs n (Err no_index.Order) = ⊥
ControlAs n (Err no_index.Spent) = max_control_packets ≤ n

pub control-as : (n : ℕ) → ControlAs n (next_control n)
control-as n = go (leb max_control_packets n) refl
  where
    go : (b : Bool) → leb max_control_packets n ≡ b → ControlAs n (cond b (Err no_index.Spent) (Ok n))
    go true e = leb-true _ _ e
    go false e = let l : n < max_control_packets = leb-false _ _ e in (refl, omega arith)
