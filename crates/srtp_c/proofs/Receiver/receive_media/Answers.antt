use lib.ListN.{length}
use Rattle.srtp.specs.declared.Receiver.{Receiver}
use Rattle.srtp.specs.Calls.{receive_media}
use Rattle.srtp_c.specs.Plain.{plain_receiver}
use Rattle.srtp_c.proofs.PlainLaws.{unnamed-receive-media}
use Rattle.srtp_c.proofs.Returns.{shows-refused, shows-turned}
use Rattle.srtp_c.proofs.Receiver.receive_media.Goals as goal

pub returns-in-Err : goal.returns-in-Err
returns-in-Err c =
    let h = c.refused.ensures in
    shows-refused plain_receiver _ _ _ c.try_from.ensures _ c.in-Err.is _ (unnamed-receive-media _ _ _) _ h.answer _ _ h.next _

pub returns-in-Ok : goal.returns-in-Ok
returns-in-Ok c =
    let a = c.args in
    let k = c.shown.ensures in
    let h = c.receive_media.ensures in
    shows-turned plain_receiver _ _ _ c.try_from.ensures _ c.in-Ok.is
    (λ (s : Receiver). receive_media s a.packet.now (length a.out.now))
    _ h.answer _ h.next _ _ h.buffer _ _ _ k.answer k.next
