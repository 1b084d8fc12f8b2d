use Rattle.std.proofs.Common.{arith, refl, rules}
use Rattle.desk.proofs.DeskLaws.{receives-within, turns-none, turns-packet}
use Rattle.desk.proofs.serving.Serving.turn.Goals as goal

pub returns-in_default-clause-turns : goal.returns-in_default-clause-turns
returns-in_default-clause-turns c = λ f h. turns-none c.args.self.now f c.args.input.now c.args.out.now c.take-taken.result _ (c.take-taken.ensures.takes f h) _ c.in_default.is

pub overflow_add-self : goal.overflow_add-self
overflow_add-self c = let n = receives-within _ _ c.args.out.now c.args.self.now.len _ _ _ c.receive.new.out (omega (arith, c.requires.1)) refl c.receive.ensures (search rules) in omega arith

pub returns-clause-turns : goal.returns-clause-turns
returns-clause-turns c = λ f h. turns-packet c.args.self.now f c.args.input.now c.args.out.now c.take-taken.result _ (c.take-taken.ensures.takes f h) _ c.in-Some.n c.in-Some.is _ _ _ _ refl c.receive.ensures
