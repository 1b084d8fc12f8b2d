use Rattle.trace_records.proofs.AnswerReturns.{shown, misfit-shown}
use Rattle.trace_records.proofs.Contexts.answer.Goals as goal

pub returns-in_default : goal.returns-in_default
returns-in_default c =
    let m = c.in_default.ensures in
    search (m, misfit-shown)

pub returns : goal.returns
returns c =
    let m = c.in-Some.ensures in
    search (m, shown)
