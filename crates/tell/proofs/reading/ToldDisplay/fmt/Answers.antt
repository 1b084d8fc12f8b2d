use Rattle.tell.proofs.reading.ToldDisplay.fmt.Goals as goal

pub returns-in-Sent-clause-writes : goal.returns-in-Sent-clause-writes
returns-in-Sent-clause-writes g c = rw c.in-Sent.is c.write-in-Sent.ensures.writes
