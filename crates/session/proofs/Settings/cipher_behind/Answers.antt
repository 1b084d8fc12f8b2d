use Rattle.session.proofs.CipherReturns.{wrote-behind}
use Rattle.session.proofs.Settings.cipher_behind.Goals as goal

pub returns : goal.returns
returns c =
    let a = c.args in
    wrote-behind a.self a.keys a.index a.clear a.packet.now a.out.now _ c.requires.0 c.copy_over.ensures _ (c.encipher.ensures _)
