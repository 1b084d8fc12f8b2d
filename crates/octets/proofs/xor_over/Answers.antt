use mathlib.Core.List.{List}
use mathlib.Core.Path.{◌≡◌, sym, ap, ◌∙◌}
use Prim.Native.Nat.{ℕ}
use native.Mathlib.Omega.{arith}
use borrow.Author.Rules.{rules}
use lib.Bits.{bit_xor}
use lib.ListN.{get_or, set, length, length-set}
use Rattle.octets.specs.Xor.{xors}
use Rattle.octets.proofs.BufferLaws.{none_over, next-over, all-over}
use Rattle.octets.proofs.XorLaws.{length-xors, get_or-xors}
use Rattle.octets.proofs.xor_over.Goals as goal

pub loop-i-init : goal.loop-i-init
loop-i-init c =
    let a = c.args in
    record { size = search rules; front = none_over (xors a.a.now a.b.now) a.d.now (omega (arith, length-xors a.a.now a.b.now)) }

pub loop-i-preserved : goal.loop-i-preserved
loop-i-preserved c =
    let l = c.loop-i in
    let a = c.args.a.now in
    let b = c.args.b.now in
    let v = bit_xor (get_or a l.i 0) (get_or b l.i 0) in
    let n : length (xors a b) ≡ length a = omega (arith, length-xors a b) in
    record {
      size = simp length-set (search rules);
      front =
          ap (λ (x : List ℕ). set x l.i v) l.invariant.front
          ∙ next-over (xors a b) c.args.d.now (omega arith) l.i v (omega arith) (sym (get_or-xors a b l.i (omega arith) (omega arith)));
    }

pub returns : goal.returns
returns c =
    let a = c.args in
    let n : length (xors a.a.now a.b.now) ≡ length a.a.now = omega (arith, length-xors a.a.now a.b.now) in
    c.loop-i.invariant.front ∙ all-over (xors a.a.now a.b.now) a.d.now (omega arith) c.loop-i.i (omega arith)
