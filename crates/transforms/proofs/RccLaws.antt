-- Laws of RFC 4771's tag: twenty bytes of it, and their beginnings. Assumes nothing.
use mathlib.Core.Bool.{Bool, true, false}
use mathlib.Core.List.{List, [], ◌++◌, append-nil}
use mathlib.Core.Path.{◌≡◌, refl, sym, ap, ap₂, ◌∙◌}
use Prim.Native.Nat.{ℕ, ◌+◌, ◌-◌, ◌^◌, ◌≤◌}
use native.Mathlib.Omega.{arith}
use lib.ListN.{length, take, drop, length-append, length-drop, drop_of_length-le}
use lib.Seq.{take-append-add, take_at}
use Rattle.octets.specs.BigEndian.{to_bytes, from_bytes}
use Rattle.octets.specs.Buffer.{over, over_at}
use Rattle.octets.proofs.BigEndianLaws.{length-to_bytes, from-to_bytes}
use Rattle.transforms.specs.Tag.{rollover_counter, number_of, media_tag}
use Rattle.transforms.specs.Rcc.{carries_counter, tag_with, integrity_tag, carried_counter}
use Rattle.transforms.specs.declared.SessionKeys.{SessionKeys}
use Rattle.transforms.specs.declared.Integrity.{Integrity}
use Rattle.transforms.specs.declared.Integrity.TheVariants.{HmacSha1}
use Rattle.transforms.proofs.TagLaws.{length-media_tag, take-media_tag}

-- ---- put_counter: the counter written over the MAC's start, and the MAC's first sixteen bytes, kept in x, behind it
pub counter-joined : (v : ℕ) (m x d w : List ℕ) → length m ≡ 20 → x ≡ take 16 m → d ≡ over_at 0 (to_bytes 4 v) m → w ≡ x
    → take 4 d ++ (w ++ drop 16 (drop 4 d)) ≡ to_bytes 4 v ++ take 16 m
unfolding over_at over
counter-joined v m x d w l ex e f =
    let t : List ℕ = to_bytes 4 v in
    let none : drop 16 (drop 4 m) ≡ [] = drop_of_length-le (drop 4 m) {i = 16} (omega (arith, length-drop 4 m)) in
    ap₂ (λ (y z : List ℕ). take 4 y ++ (z ++ drop 16 (drop 4 y))) e (f ∙ ex)
    ∙ ap (λ (r : List ℕ). t ++ (take 16 m ++ r)) none
    ∙ ap (λ (r : List ℕ). t ++ r) (append-nil (take 16 m))

-- ---- media_tag
module _ (t : Integrity) (k : SessionKeys) (a : List ℕ) (i : ℕ) (w : List ℕ) (e : w ≡ media_tag 20 k a i) (b : Bool)
    (c : b ≡ carries_counter t (number_of i)) where
  pub tag-carried : b ≡ true → (r : List ℕ) → r ≡ to_bytes 4 (rollover_counter i) ++ take 16 w → r ≡ integrity_tag t 20 k a i
  unfolding integrity_tag
  tag-carried h r f =
      f
      ∙ ap (λ (x : List ℕ). to_bytes 4 (rollover_counter i) ++ x) (ap (take 16) e ∙ take-media_tag 16 k a 20 i (omega arith))
      ∙ ap (λ (x : Bool). tag_with x 20 k a i) (sym h ∙ c)

  pub tag-plain : b ≡ false → w ≡ integrity_tag t 20 k a i
  unfolding integrity_tag
  tag-plain h = e ∙ ap (λ (x : Bool). tag_with x 20 k a i) (sym h ∙ c)

-- ---- its length, and its beginnings: of the twenty bytes that the code answers a packet takes the first n
module _ (n : ℕ) (k : SessionKeys) (a : List ℕ) (i : ℕ) (least : 4 ≤ n) (most : n ≤ 20) where
  length-with : (b : Bool) → length (tag_with b n k a i) ≡ n
  length-with true =
      length-append (to_bytes 4 (rollover_counter i)) (media_tag (n - 4) k a i)
      ∙ omega (arith, length-to_bytes 4 (rollover_counter i), length-media_tag (n - 4) k a i (omega arith))
  length-with false = length-media_tag n k a i most

  take-with : (b : Bool) → take n (tag_with b 20 k a i) ≡ tag_with b n k a i
  take-with true =
      let c : List ℕ = to_bytes 4 (rollover_counter i) in
      let e : n ≡ length c + (n - 4) = omega (arith, length-to_bytes 4 (rollover_counter i)) in
      ap (λ (m : ℕ). take m (c ++ media_tag 16 k a i)) e
      ∙ take-append-add c (media_tag 16 k a i) (n - 4)
      ∙ ap (λ (x : List ℕ). c ++ x) (take-media_tag (n - 4) k a 16 i (omega arith))
  take-with false = take-media_tag n k a 20 i most

  pub length-integrity_tag : (t : Integrity) → length (integrity_tag t n k a i) ≡ n
  unfolding integrity_tag
  length-integrity_tag t = length-with (carries_counter t (number_of i))

  pub take-integrity_tag : (t : Integrity) → take n (integrity_tag t 20 k a i) ≡ integrity_tag t n k a i
  unfolding integrity_tag
  take-integrity_tag t = take-with (carries_counter t (number_of i))

-- ---- what a receiver reads is what the sender wrote
pub carried-back : (t : Integrity) (n : ℕ) (k : SessionKeys) (a : List ℕ) (i : ℕ) → i ≤ 2 ^ 48 - 1 → carries_counter t (number_of i) ≡ true
    → carried_counter (integrity_tag t n k a i) ≡ rollover_counter i
unfolding integrity_tag
carried-back t n k a i h c =
    let r : List ℕ = to_bytes 4 (rollover_counter i) in
    ap (λ (b : Bool). carried_counter (tag_with b n k a i)) c
    ∙ ap from_bytes (take_at r (media_tag (n - 4) k a i) 4 (length-to_bytes 4 (rollover_counter i)))
    ∙ from-to_bytes 4 (rollover_counter i)
    ∙ omega arith

-- ---- under RFC 3711's transform the tag is RFC 3711's, at every index
pub default-tag : (n : ℕ) (k : SessionKeys) (a : List ℕ) (i : ℕ) → integrity_tag HmacSha1 n k a i ≡ media_tag n k a i
unfolding integrity_tag
default-tag n k a i = refl
