use Rattle.std.proofs.Common.{arith, sym, ◌∙◌}
use Rattle.desk.proofs.ReaderLaws.{came-more, came-past, takes-packet, started-cut, left_cut}
use Rattle.desk.proofs.framing.Reader.take.Goals as goal

pub returns-then-is_taken-clause-takes : goal.returns-then-is_taken-clause-takes
returns-then-is_taken-clause-takes c = λ f h. takes-packet f _ c.args.input.now _ _ _ _ _ _ (c.loop-at.invariant.came f h) c.step-at.ensures.steps (sym c.is_whole.ensures ∙ c.if-is_whole.true) _ c.start-reader.ensures _ c.from-len.ensures (omega arith)

pub loop-at-preserved-else-is_taken : goal.loop-at-preserved-else-is_taken
loop-at-preserved-else-is_taken c = record {
  from_here = omega arith;
  within = omega arith;
  cut = started-cut _ c.start-reader.ensures;
  came = λ f h. came-past f _ c.args.input.now _ _ _ _ _ _ (c.loop-at.invariant.came f h) c.step-at.ensures.steps (sym c.is_whole.ensures ∙ c.if-is_whole.true) _ c.start-reader.ensures _ c.from-len.ensures (omega arith);
}

pub loop-at-preserved : goal.loop-at-preserved
loop-at-preserved c = record {
  from_here = omega arith;
  within = omega arith;
  cut = left_cut _ (sym c.is_whole.ensures ∙ c.if-is_whole.false);
  came = λ f h. came-more f _ c.args.input.now _ _ _ _ _ _ (c.loop-at.invariant.came f h) c.step-at.ensures.steps (sym c.is_whole.ensures ∙ c.if-is_whole.false);
}
