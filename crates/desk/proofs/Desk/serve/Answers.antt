use Rattle.std.proofs.Common.{◌+◌, ◌≤◌, length, arith, rules}
use Rattle.desk.proofs.DeskLaws.{turns-nothing, turns_more, len-bound, serves}
use Rattle.desk.proofs.Desk.serve.Goals as goal

pub loop-serving-init : goal.loop-serving-init
loop-serving-init c = record { within = omega arith; turns = turns-nothing c.args.self _ c.args.input.now c.args.out.now }

pub turn-requires : goal.turn-requires
turn-requires c =
    let bound = len-bound c.args.self _ c.args.input.now c.args.out.now c.loop-serving.serving c.loop-serving.out (search rules) (search rules) c.loop-serving.invariant.turns in
    let room : length c.args.input.now + 4110 ≤ length c.args.out.now = search rules in
    (c.loop-serving-test.true, omega arith)

pub loop-serving-preserved : goal.loop-serving-preserved
loop-serving-preserved c = record {
  within = search rules;
  turns = λ f h. let s = c.loop-serving.invariant.turns f h in turns_more c.args.self _ c.args.input.now c.args.out.now c.loop-serving.serving c.loop-serving.out f s c.turn.new.self c.turn.new.out (c.turn.ensures.turns s.begun s.holds);
}

pub returns : goal.returns
returns c =
    let bound = len-bound c.args.self _ c.args.input.now c.args.out.now c.loop-serving.serving c.loop-serving.out (search rules) (search rules) c.loop-serving.invariant.turns in
    let room : length c.args.input.now + 4110 ≤ length c.args.out.now = search rules in
    serves c.args.self _ c.args.input.now c.args.out.now c.loop-serving.serving c.loop-serving.out (search rules) (search rules) c.loop-serving.invariant.turns (search rules) c.loop-serving-test.false (omega arith)
