use Rattle.std.proofs.Common.{sym, length-take-le}
use Rattle.trace_records.proofs.AnswerLaws.{answer-fits}
use Rattle.trace.proofs.answer_one.Goals as goal

pub slice_bounds-write_all-end : goal.slice_bounds-write_all-end
slice_bounds-write_all-end g c = answer-fits _ _ _ _ c.answer-len.ensures

pub slice_bounds-write_all-end-2 : goal.slice_bounds-write_all-end-2
slice_bounds-write_all-end-2 g c = sym (length-take-le _ _ (answer-fits _ _ _ _ c.answer-len.ensures))
