use mathlib.Core.Path.{sym, ap₂, ◌∙◌}
use native.Mathlib.Omega.{arith}
use lib.Seq.{take_all}
use Rattle.octets.specs.Equal.{same}
use Rattle.octets.proofs.EqualLaws.{same_length, same_next}
use Rattle.octets.proofs.same.Goals as goal

pub returns-then-a-b : goal.returns-then-a-b
returns-then-a-b c = sym (same_length c.args.a.now c.args.b.now c.if-a-b.true)

pub loop-i-preserved : goal.loop-i-preserved
loop-i-preserved c =
    let l = c.loop-i in
    same_next c.args.a.now c.args.b.now l.i l.d (omega arith) (omega arith) l.invariant

pub returns : goal.returns
returns c =
    let l = c.loop-i in
    l.invariant ∙ ap₂ same (take_all l.i c.args.a.now (omega arith)) (take_all l.i c.args.b.now (omega arith))
