use mathlib.Core.List.{List, [], ◌∷◌, ◌++◌}
use mathlib.Core.Path.{◌≡◌, sym, ap, ap₂, ◌∙◌}
use Prim.Native.Nat.{ℕ, suc, ◌+◌, ◌-◌, ◌≤◌, ◌<◌}
use native.Mathlib.Numerals.{add-one}
use native.Mathlib.Omega.{arith}
use lib.Bits.{bit_xor}
use lib.ListN.{length, take, get_or, set}
use lib.Seq.{length-take-le, take-suc-set, get_or-take}
use Rattle.aes.specs.KeyExpansion.{expand, next_word, temp}
use Rattle.aes.proofs.expansion.fill.Goals as goal

module _ (nk : ℕ) (w : List ℕ) (i : ℕ) (p : 1 ≤ nk) (l : nk ≤ i) (h : i < length w) where
  -- the next word, read off the list whose first i words are the ones so far
  next-at : bit_xor (get_or w (i - nk) 0) (temp nk i (get_or w (i - 1) 0)) ≡ next_word nk (take i w)
  next-at =
      let e : length (take i w) ≡ i = length-take-le i w (omega arith) in
      sym (ap (λ (n : ℕ). bit_xor (get_or (take i w) (n - nk) 0) (temp nk n (get_or (take i w) (n - 1) 0))) e
      ∙ ap₂ (λ (a b : ℕ). bit_xor a (temp nk i b)) (get_or-take i w (i - nk) 0 (omega arith)) (get_or-take i w (i - 1) 0 (omega arith)))

  -- one word more
  step : (k : List ℕ) → take i w ≡ expand nk (i - nk) k
      → take (i + 1) (set w i (bit_xor (get_or w (i - nk) 0) (temp nk i (get_or w (i - 1) 0)))) ≡ expand nk (i + 1 - nk) k
  unfolding expand
  step k e =
      let v : ℕ = bit_xor (get_or w (i - nk) 0) (temp nk i (get_or w (i - 1) 0)) in
      let f : i + 1 - nk ≡ suc (i - nk) = omega arith in
      ap (λ (n : ℕ). take n (set w i v)) (add-one i) ∙ take-suc-set w i v h
      ∙ ap₂ (λ (x : List ℕ) (y : ℕ). x ++ (y ∷ [])) e (next-at ∙ ap (next_word nk) e)
      ∙ sym (ap (λ (n : ℕ). expand nk n k) f)

pub loop-i-init : goal.loop-i-init
unfolding expand
loop-i-init c =
    let a = c.args in
    let e : a.nk - a.nk ≡ 0 = omega arith in
    sym (ap (λ (n : ℕ). expand a.nk n (take a.nk a.w.now)) e)

pub loop-i-preserved : goal.loop-i-preserved
loop-i-preserved c =
    let l = c.loop-i in
    let a = c.args in
    ap (λ (r : ℕ). take (l.i + 1) (set l.w l.i (bit_xor (get_or l.w (l.i - a.nk) 0) r))) c.temp_of.ensures
    ∙ step a.nk l.w l.i (omega arith) (omega arith) (omega arith) (take a.nk a.w.now) l.invariant
