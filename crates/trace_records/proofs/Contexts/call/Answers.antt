use Rattle.trace_records.proofs.CallReturns.{call_made}
use Rattle.trace_records.proofs.Contexts.call.Goals as goal

pub returns : goal.returns
returns c = search call_made
