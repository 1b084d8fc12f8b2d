use native.Mathlib.Omega.{arith}
use lib.ListN.{drop, length-drop}
use lib.Seq.{take_all}
use Rattle.aes_tables.proofs.table.Tables.last.Goals as goal

pub returns : goal.returns
returns c =
    let t = c.args.self.words.now in
    take_all 257 (drop 512 t) (omega (arith, length-drop 512 t, c.args.self.rule.size))
