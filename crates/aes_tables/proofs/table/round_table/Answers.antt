use mathlib.Core.Path.{refl}
use Rattle.aes.specs.Field.{mul}
use Rattle.aes.specs.SBox.{s_box}
use Rattle.aes_tables.proofs.TableRule.{round-table}
use Rattle.aes_tables.proofs.table.round_table.Goals as goal

pub returns : goal.returns
unfolding s_box mul
returns c = round-table _ refl tt tt
