-- `has_bit` meets its contract. Assumes nothing.
use Rattle.std.proofs.Common.{rules}
use Rattle.replay.proofs.RowReturns.{has-bit-is}
use Rattle.replay.proofs.row.has_bit.Goals as goal

pub returns : goal.returns
returns c = search (has-bit-is, rules)
