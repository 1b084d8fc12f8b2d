use Rattle.srtp.specs.Calls.{send_media, send_control, receive_media, receive_control}
use Rattle.trace_records.specs.Records.{left_by}
use Rattle.trace_records.proofs.CallReturns.{sent, opened}
use Rattle.trace_records.proofs.Contexts.call_on.Goals as goal

pub returns-in-SendMedia : goal.returns-in-SendMedia
unfolding left_by
returns-in-SendMedia c =
    rw c.in-SendMedia.is
    (sent _ _ _ _ _ (c.fill.ensures.after (λ y e. e)) c.send_media.auto.out _ send_media _ c.send_media.ensures c.after_sender.ensures)

pub returns-in-SendControl : goal.returns-in-SendControl
unfolding left_by
returns-in-SendControl c =
    rw c.in-SendControl.is
    (sent _ _ _ _ _ (c.fill.ensures.after (λ y e. e)) c.send_control.auto.out _ send_control _ c.send_control.ensures c.after_sender-in-SendControl.ensures)

pub returns-in-ReceiveMedia : goal.returns-in-ReceiveMedia
unfolding left_by
returns-in-ReceiveMedia c =
    rw c.in-ReceiveMedia.is
    (opened _ _ _ _ _ (c.fill.ensures.after (λ y e. e)) c.receive_media.auto.out _ receive_media _ c.receive_media.ensures c.after_receiver.ensures)

pub returns-in-ReceiveControl : goal.returns-in-ReceiveControl
unfolding left_by
returns-in-ReceiveControl c =
    rw c.in-ReceiveControl.is
    (opened _ _ _ _ _ (c.fill.ensures.after (λ y e. e)) c.receive_control.auto.out _ receive_control _ c.receive_control.ensures c.after_receiver-in-ReceiveControl.ensures)
