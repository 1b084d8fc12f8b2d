use Rattle.std.proofs.Common.{arith, refl}
use Rattle.desk.proofs.ReaderLaws.{kept-all, kept-over, filled}
use Rattle.desk.proofs.framing.Reader.fill.Goals as goal

pub returns-then-told-gt-MAX_FRAME_LEN-clause-steps : goal.returns-then-told-gt-MAX_FRAME_LEN-clause-steps
returns-then-told-gt-MAX_FRAME_LEN-clause-steps c =
    filled c.args.self.now c.args.kept.now c.args.input.now c.min-n.result (omega arith) (omega arith) (omega arith) (omega arith) (omega arith) _ (kept-all c.args.self.now _ c.args.kept.now (omega arith))

pub returns-clause-steps : goal.returns-clause-steps
returns-clause-steps c =
    filled c.args.self.now c.args.kept.now c.args.input.now c.min-n.result (omega arith) (omega arith) (omega arith) (omega arith) (omega arith) _ (kept-over c.args.self.now _ c.args.kept.now _ _ (omega arith) refl c.copy_over.ensures)
