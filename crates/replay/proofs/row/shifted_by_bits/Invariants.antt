-- `shifted_by_bits` meets its contract. The loop: what is written and what the rest of the words will give are the whole. Assumes nothing.
use Rattle.std.proofs.Common.{◌≡◌, ◌++◌, take, drop}
use Rattle.replay.proofs.RowLaws.{carried}
use Rattle.replay.proofs.row.shifted_by_bits.Given as goal

abbrev pub invariant-loop-word : goal.invariant-loop-word
invariant-loop-word l =
    take l.word-index l.word-items ++ carried l.distance l.carry (drop l.word-index l.word-items) ≡ carried l.distance 0 l.fn.words
