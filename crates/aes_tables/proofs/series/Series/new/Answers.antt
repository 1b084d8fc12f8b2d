use Rattle.aes_tables.proofs.series.Series.new.Goals as goal

-- The check finds this too; written out, it names the fact that a series with the front of another block lacks.
pub invariant_of-result-clause-front_of : goal.invariant_of-result-clause-front_of
invariant_of-result-clause-front_of c = c.front_of-front.ensures
