use borrow.Author.Rules.{rules}
use Rattle.std.proofs.lemmas.Nat.{be_bytes_8}
use Rattle.octets.proofs.words.U64Word8.from_be.Goals as goal

pub returns-clause-bytes : goal.returns-clause-bytes
returns-clause-bytes c = be_bytes_8 c.args.bytes c.from_be_bytes.result (search rules) (search rules) c.from_be_bytes.ensures
