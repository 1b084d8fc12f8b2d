use Rattle.std.proofs.Common.{drop, arith, refl, sym, subst}
use Rattle.desk.specs.Reads.{Steps}
use Rattle.desk.specs.declared.framing.Reader.{Reader}
use Rattle.desk.proofs.ReaderLaws.{length-step}
use Rattle.desk.proofs.framing.Reader.step.Goals as goal

pub returns-clause-steps : goal.returns-clause-steps
returns-clause-steps c = λ f h.
    subst (λ (r : Reader). Steps f c.args.input.now r c.args.kept.now (drop 1 c.args.input.now)) (sym c.with_length_byte.ensures)
    (length-step c.args.self.now c.args.kept.now _ (let l = c.type_inv.input 0 in omega (arith, l)) c.args.input.now (omega arith) refl (omega arith) f h)
