use mathlib.Core.List.{List}
use mathlib.Core.Path.{ap, ◌∙◌}
use Prim.Native.Nat.{ℕ, ◌+◌, ◌-◌}
use native.Mathlib.Omega.{arith}
use lib.ListN.{drop}
use Rattle.transforms.specs.Steps.{xored_at}
use Rattle.transforms.proofs.XoredLaws.{part_in}
use Rattle.transforms.proofs.counter_mode.block_in.Goals as goal

pub returns-clause-part : goal.returns-clause-part
returns-clause-part c =
    let x = c.args in
    let n = c.min-n.result in
    let k = c.bytes-b in
    part_in x.out.now k.result _ x.at x.from n (omega arith) c.xor_in.ensures
    ∙ ap (λ (b : List ℕ). xored_at x.at (x.at + n - x.at) (drop x.from b) x.out.now) k.ensures
