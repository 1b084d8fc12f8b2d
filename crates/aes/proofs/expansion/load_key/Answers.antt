use mathlib.Core.List.{List, [], ◌∷◌, ◌++◌}
use mathlib.Core.Path.{refl, ap₂}
use Prim.Native.Nat.{ℕ, ◌<◌}
use native.Mathlib.Numerals.{add-one}
use borrow.Author.Rules.{rules}
use lib.ListN.{length}
use lib.Seq.{take-suc-set}
use Rattle.aes.specs.KeyExpansion.{key_words}
use Rattle.aes.proofs.expansion.load_key.Goals as goal

pub loop-i-init : goal.loop-i-init
unfolding key_words
loop-i-init c = refl

pub loop-i-preserved : goal.loop-i-preserved
unfolding key_words
loop-i-preserved c =
    let l = c.loop-i in
    let h : l.i < length l.w = search rules in
    rw (add-one, take-suc-set) (ap₂ (λ (x : List ℕ) (v : ℕ). x ++ (v ∷ [])) l.invariant c.load.ensures.number)
