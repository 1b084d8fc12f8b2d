use Rattle.aes_tables.proofs.RoundLaws.{each-mixed}
use Rattle.aes_tables.proofs.table.Tables.round.Goals as goal

pub returns : goal.returns
returns g c =
    let a = c.args in
    let e = each-mixed a.self.words.now a.self.rule a.key a.states.now in
    cc
