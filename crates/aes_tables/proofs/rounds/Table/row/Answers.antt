use borrow.Author.Rules.{rules}
use Rattle.aes_tables.proofs.RoundLaws.{row_of}
use Rattle.aes_tables.proofs.rounds.Table.row.Goals as goal

pub returns : goal.returns
returns g c = row_of c.args.self.words.now g.row.D c.args.r c.args.a c.entry.result (search rules) c.entry.ensures
