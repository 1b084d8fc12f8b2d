use mathlib.Core.List.{List}
use mathlib.Core.Path.{refl, ap, ◌∙◌}
use Prim.Native.Nat.{ℕ}
use native.Mathlib.Omega.{arith}
use borrow.Author.Rules.{rules}
use lib.ListN.{get_or, set, length-set}
use Rattle.octets.proofs.BufferLaws.{none_over, next-over, all-over}
use Rattle.octets.proofs.copy_over.Goals as goal

pub loop-i-init : goal.loop-i-init
loop-i-init c = record { size = search rules; front = none_over c.args.a.now c.args.d.now c.requires }

pub loop-i-preserved : goal.loop-i-preserved
loop-i-preserved c =
    let l = c.loop-i in
    let a = c.args in
    record {
      size = simp length-set (search rules);
      front =
          ap (λ (x : List ℕ). set x l.i (get_or a.a.now l.i 0)) l.invariant.front
          ∙ next-over a.a.now a.d.now (omega arith) l.i (get_or a.a.now l.i 0) (omega arith) refl;
    }

pub returns : goal.returns
returns c =
    let a = c.args in
    c.loop-i.invariant.front ∙ all-over a.a.now a.d.now (omega arith) c.loop-i.i (omega arith)
