use native.Mathlib.Omega.{arith}
use Rattle.transforms.proofs.CounterLaws.{block_words}
use Rattle.transforms.proofs.counter_mode.Keystream.counter.Goals as goal

pub returns-clause-bytes : goal.returns-clause-bytes
returns-clause-bytes c =
    let first = c.args.self.now.first in
    block_words first.c0 first.c1 first.c2 first.c3 c.args.j (omega (arith, c.args.self.now.zeros))
