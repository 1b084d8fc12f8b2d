use mathlib.Core.Bool.{Bool}
use mathlib.Core.Path.{◌∙◌, ap, ◌≡◌}
use lib.ListN.{length}
use Rattle.octets.specs.Buffer.{over}
use Rattle.rtp.specs.Protected.{index_word}
use Rattle.session.specs.Packets.{encrypts, cipher_of, ciphered_control}
use Rattle.session.proofs.PacketReturns.{control-written}
use borrow.Author.Rules.{rules}
use Rattle.session.proofs.Session.protect_control.Goals as goal

pub returns : goal.returns
returns c =
    let a = c.args in
    let l : length a.self.settings.mki ≡ 4 = search rules in
    let x = c.encrypts-encrypted.ensures in
    let w = control-written a.self _ _ _ _ _ _ _ l c.requires.lengths (encrypts (cipher_of a.self)) _ _
    (c.cipher_control.ensures ∙ ap (λ (e : Bool). over (ciphered_control a.self e a.packet.now a.index) a.out.now) x)
    (c.index_word.ensures ∙ ap (λ (e : Bool). index_word e a.index) x)
    c.store.ensures c.control_tag.ensures (c.finish.ensures.written, c.finish.ensures.place) in
    record { size = w.0; written = w.1 }
