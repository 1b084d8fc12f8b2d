-- `shifted_by_words` meets its contract. Assumes nothing.
use Rattle.std.proofs.Common.{rules}
use Rattle.replay.proofs.RowReturns.{fitted, lifted-all}
use Rattle.replay.proofs.row.shifted_by_words.Goals as goal

pub returns : goal.returns
returns c = search (lifted-all, fitted, rules)
