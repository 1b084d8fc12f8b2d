use mathlib.Core.List.{◌++◌}
use mathlib.Core.Path.{◌≡◌, refl, ap₂, ◌∙◌}
use Prim.Native.Nat.{ℕ, ◌+◌, ◌-◌}
use native.Mathlib.Omega.{arith}
use lib.ListN.{drop}
use Rattle.aes.specs.Columns.{block}
use Rattle.transforms.specs.Steps.{xored_at}
use Rattle.transforms.proofs.XoredLaws.{xored-both, pair-in}
use Rattle.transforms.proofs.counter_mode.pair_in.Goals as goal

pub returns-then-out-at-ge32-clause-part : goal.returns-then-out-at-ge32-clause-part
returns-then-out-at-ge32-clause-part c =
    let x = c.args in
    let k : 16 + 16 ≡ x.at + 32 - x.at = omega arith in
    let z : 0 ≡ x.from = omega arith in
    xored-both x.at 16 16 (block x.one) (block x.two) x.out.now _ _ refl (omega arith) c.words_in.ensures c.words_in-then-out-at-ge32.ensures
    ∙ ap₂ (λ (n i : ℕ). xored_at x.at n (drop i (block x.one ++ block x.two)) x.out.now) k z

pub returns-clause-part : goal.returns-clause-part
returns-clause-part c =
    let x = c.args in
    let a = c.block_in-behind in
    let b = c.block_in in
    pair-in x.out.now _ _ (block x.one) (block x.two) x.from x.at a.result b.result refl (omega arith) (omega arith) a.ensures.end (omega arith)
    a.ensures.part b.ensures.part
