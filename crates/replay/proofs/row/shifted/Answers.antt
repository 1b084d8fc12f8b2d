-- `shifted` meets its contract. Assumes nothing.
use Rattle.std.proofs.Common.{rules}
use Rattle.replay.proofs.RowReturns.{shifted-is}
use Rattle.replay.proofs.row.shifted.Goals as goal

pub returns : goal.returns
returns c = search (shifted-is, rules)
