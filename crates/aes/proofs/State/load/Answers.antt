use Rattle.aes.proofs.StateLaws.{four-words}
use Rattle.aes.proofs.State.load.Goals as goal

pub returns : goal.returns
returns c =
    let a = c.args in
    four-words a.s.now a.at c.load.ensures.bytes c.load-2.ensures.bytes c.load-3.ensures.bytes c.load-4.ensures.bytes
