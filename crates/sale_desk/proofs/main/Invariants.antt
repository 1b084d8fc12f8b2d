-- No whole frame stands at the desk.
use Rattle.desk.specs.Reads.{NotWhole}
use Rattle.sale_desk.proofs.main.Given as goal

abbrev pub invariant-loop : goal.invariant-loop
invariant-loop l = NotWhole l.desk
