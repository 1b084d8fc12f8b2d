use mathlib.Core.List.{List}
use mathlib.Core.Path.{◌≡◌, sym, ap, ◌∙◌}
use Prim.Native.Nat.{ℕ}
use native.Mathlib.Omega.{arith}
use lib.Bits.{bit_xor}
use lib.ListN.{get_or, set, length, take}
use lib.Seq.{length-take-le}
use Rattle.octets.proofs.BufferLaws.{none_over, next-over, all-over}
use Rattle.octets.proofs.XorLaws.{length-xors, get_or-xors}
use Rattle.octets.specs.Xor.{xors}
use Rattle.transforms.proofs.XoredLaws.{rest_over}
use Rattle.transforms.proofs.buffers.xor_in.Goals as goal

pub loop-i-init : goal.loop-i-init
loop-i-init c =
    let a = c.args in
    none_over (xors a.d.now a.s.now) a.d.now (omega (arith, length-xors a.d.now a.s.now))

pub loop-i-preserved : goal.loop-i-preserved
loop-i-preserved c =
    let l = c.loop-i in
    let s = c.args.s.now in
    let d = c.args.d.now in
    let n : length (xors d s) ≡ length s = omega (arith, length-xors d s) in
    let k : l.i ≡ length (take l.i (xors d s)) = sym (length-take-le l.i (xors d s) (omega arith)) in
    let old : get_or l.d l.i 0 ≡ get_or d l.i 0 = ap (λ (x : List ℕ). get_or x l.i 0) l.invariant ∙ rest_over (take l.i (xors d s)) d l.i k in
    let v : bit_xor (get_or l.d l.i 0) (get_or s l.i 0) ≡ get_or (xors d s) l.i 0 =
    ap (λ (x : ℕ). bit_xor x (get_or s l.i 0)) old ∙ sym (get_or-xors d s l.i (omega arith) (omega arith)) in
    ap (λ (x : List ℕ). set x l.i (bit_xor (get_or l.d l.i 0) (get_or s l.i 0))) l.invariant
    ∙ next-over (xors d s) d (omega arith) l.i (bit_xor (get_or l.d l.i 0) (get_or s l.i 0)) (omega arith) v

pub returns : goal.returns
returns c =
    let a = c.args in
    let n : length (xors a.d.now a.s.now) ≡ length a.s.now = omega (arith, length-xors a.d.now a.s.now) in
    c.loop-i.invariant ∙ all-over (xors a.d.now a.s.now) a.d.now (omega arith) c.loop-i.i (omega arith)
