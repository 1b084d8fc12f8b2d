-- `with_bit` meets its contract. Assumes nothing.
use Rattle.std.proofs.Common.{rules}
use Rattle.replay.proofs.RowReturns.{with-bit-is}
use Rattle.replay.proofs.row.with_bit.Goals as goal

pub returns : goal.returns
returns c = search (with-bit-is, rules)
