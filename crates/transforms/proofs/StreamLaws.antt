-- What every cipher shares that XORs a text with a stream: proved of any s that gives n bytes when n are asked for, and so for each
-- cipher of today and for one that joins. Assumes nothing.
use mathlib.Core.List.{List, ◌++◌}
use mathlib.Core.Path.{◌≡◌, sym, ap, ap₂, ◌∙◌}
use Prim.Native.Nat.{ℕ, ◌+◌, ◌≤◌}
use native.Mathlib.Omega.{arith}
use lib.ListN.{length, take, drop, length-append, length-take, length-drop, take-append-drop}
use lib.Seq.{drop-drop}
use Rattle.std.proofs.lemmas.List.{drop-take}
use Rattle.octets.proofs.XorLaws.{length-xors, xors-append, xors-twice}
use Rattle.octets.specs.Xor.{xors}

-- a text under the stream s
abbrev pub under : (ℕ → List ℕ) → List ℕ → List ℕ
under s text = xors text (s (length text))

-- the same of a part that starts at byte start of the stream
abbrev pub under_from : (ℕ → List ℕ) → ℕ → List ℕ → List ℕ
under_from s start text = xors text (drop start (s (start + length text)))

module _ (s : ℕ → List ℕ) (size : (n : ℕ) → length (s n) ≡ n) where
  pub length-under : (text : List ℕ) → length (under s text) ≡ length text
  length-under text = omega (arith, length-xors text (s (length text)), size (length text))

  pub length-under_from : (start : ℕ) (text : List ℕ) → length (under_from s start text) ≡ length text
  length-under_from start text =
      let t : List ℕ = s (start + length text) in
      omega (arith, length-xors text (drop start t), length-drop start t, size (start + length text))

  -- text XOR stream XOR stream is the text
  pub under_twice : (text : List ℕ) → under s (under s text) ≡ text
  under_twice text =
      ap (λ (n : ℕ). xors (under s text) (s n)) (length-under text)
      ∙ xors-twice text (s (length text)) (omega (arith, size (length text)))

  -- different texts differ under one stream
  pub under-injective : (a b : List ℕ) → under s a ≡ under s b → a ≡ b
  under-injective a b e = sym (under_twice a) ∙ ap (under s) e ∙ under_twice b

  -- ---- a text that is cut, where the first m of n bytes of the stream are its first m
  module _ (front : (m n : ℕ) → m ≤ n → take m (s n) ≡ s m) where
    pub under_from-append : (start : ℕ) (a b : List ℕ) → under_from s start (a ++ b) ≡ under_from s start a ++ under_from s (start + length a) b
    under_from-append start a b =
        let n : ℕ = start + length (a ++ b) in
        let m : n ≡ start + length a + length b = omega (arith, length-append a b) in
        let t : List ℕ = drop start (s n) in
        let first : take (length a) t ≡ drop start (s (start + length a)) =
        sym (drop-take start (length a) (s n)) ∙ ap (drop start) (front (start + length a) n (omega arith)) in
        let rest : drop (length a) t ≡ drop (start + length a) (s (start + length a + length b)) =
        drop-drop (length a) start (s n) ∙ ap (λ (k : ℕ). drop (start + length a) (s k)) m in
        ap (xors (a ++ b)) (sym (take-append-drop (length a) t))
        ∙ xors-append a (take (length a) t) b (drop (length a) t) (omega (arith, length-take (length a) t, length-drop start (s n), size n))
        ∙ ap₂ (λ (x y : List ℕ). xors a x ++ xors b y) first rest
