-- Laws of the steps of receiving: groups of rows one behind the other, and the parts of a packet that the code takes. Assumes nothing.
use mathlib.Core.Bool.{Bool, true, false, cond}
use mathlib.Core.List.{List, [], ◌∷◌, ◌++◌}
use mathlib.Core.Path.{◌≡◌, refl, sym, ap, ◌∙◌}
use Prim.Native.Nat.{ℕ, ◌+◌, ◌-◌}
use native.Mathlib.Omega.{arith}
use lib.ListN.{length, take, drop, length-drop}
use lib.Seq.{length-take-le, take_all, take-take}
use Rattle.std.specs.Prelude.{None, Some, Result, Ok, Err, is_some}
use Rattle.rtp.proofs.TrailerLaws.{portion-length}
use Rattle.rtp.specs.Protected.{authenticated_portion, rtcp_portion}
use Rattle.transforms.proofs.RccLaws.{take-integrity_tag}
use Rattle.transforms.proofs.TagLaws.{take-control_tag}
use Rattle.transforms.specs.Tag.{control_tag}
use Rattle.transforms.specs.declared.SessionKeys.{SessionKeys}
use Rattle.srtp.specs.Refusals.{Row, stops, judged, judged_as}
use Rattle.srtp.specs.declared.Refusal.{Refusal}

-- ---- a step's answer, and where it passes that of the steps behind it
abbrev pub and_then : {T : Type 0} → Result Unit Refusal → Result T Refusal → Result T Refusal
and_then (Ok u) r = r
and_then (Err n) r = Err n

pub judged-append : {T : Type 0} (x : T) (xs ys : List Row) →
    judged_as x (judged (xs ++ ys)) ≡ and_then (judged_as tt (judged xs)) (judged_as x (judged ys))
judged-append x [] ys = refl
judged-append x (r ∷ xs) ys = go r.holds (judged-append x xs ys)
  where
    go : (t : Bool) → judged_as x (judged (xs ++ ys)) ≡ and_then (judged_as tt (judged xs)) (judged_as x (judged ys)) →
        judged_as x (cond t (stops r.gives) (judged (xs ++ ys)))
        ≡ and_then (judged_as tt (cond t (stops r.gives) (judged xs))) (judged_as x (judged ys))
    go true ih = refl
    go false ih = ih

-- ---- of a tag's twenty bytes a packet carries the first
pub control-tag : (k : SessionKeys) (m : List ℕ) → take 10 (control_tag 20 k m) ≡ control_tag 10 k m
control-tag k m = take-control_tag 10 k m 20 (omega arith)

pub ruleset tags = (control-tag, take-integrity_tag)

-- ---- parts of a packet
-- a reader that answers has found what it asks for
pub some_where : {A : Type 0} (b : Bool) (x : A) → is_some (cond b (Some x) None) ≡ true → b ≡ true
some_where true x e = refl
some_where false x e = cc

-- from a place to the end
pub to_end : (j : ℕ) (b : List ℕ) → take (length b - j) (drop j b) ≡ drop j b
to_end j b = take_all (length b - j) (drop j b) (omega (arith, length-drop j b))

-- what stands before the MKI, and what stands before the index word, by its length
pub portion-take : (m t : ℕ) (b : List ℕ) (k : ℕ) → k ≡ length (authenticated_portion m t b) → authenticated_portion m t b ≡ take k b
unfolding authenticated_portion
portion-take m t b k e = ap (λ (n : ℕ). take n b) (sym (e ∙ portion-length m t b))

pub rtcp-take : (m t : ℕ) (b : List ℕ) (k : ℕ) → k ≡ length (rtcp_portion (authenticated_portion m t b)) →
    rtcp_portion (authenticated_portion m t b) ≡ take k b
unfolding rtcp_portion authenticated_portion
rtcp-take m t b k e =
    let a : List ℕ = take (length b - (m + t)) b in
    let l : length a ≡ length b - (m + t) = length-take-le (length b - (m + t)) b (omega arith) in
    let q : k ≡ length a - 4 = e ∙ length-take-le (length a - 4) a (omega arith) in
    ap (λ (n : ℕ). take n a) (sym q) ∙ take-take k (length b - (m + t)) b (omega arith)
