-- `shifted_by_bits` meets its contract. Assumes nothing.
use Rattle.std.proofs.Common.{rules}
use Rattle.replay.proofs.RowReturns.{carry-on, carried-all}
use Rattle.replay.proofs.row.shifted_by_bits.Goals as goal

pub loop-word-preserved : goal.loop-word-preserved
loop-word-preserved c = search (carry-on, rules)

pub returns : goal.returns
returns c = search (carried-all, rules)
