use borrow.Author.Rules.{rules}
use borrow.Author.Tests.{lt-ltb, le-ltb}
use Rattle.aes.proofs.ByteTests.{times2-is}
use Rattle.aes.proofs.cipher.times2.Goals as goal

pub returns-then-b-lt128 : goal.returns-then-b-lt128
returns-then-b-lt128 c = simp (lt-ltb _ _ c.if-b-lt128.true) at (times2-is c.args.b (search rules))

pub returns-else-b-lt128 : goal.returns-else-b-lt128
returns-else-b-lt128 c = simp (le-ltb _ _ c.if-b-lt128.false) at (times2-is c.args.b (search rules))
