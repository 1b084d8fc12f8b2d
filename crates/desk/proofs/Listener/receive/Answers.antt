use Rattle.std.proofs.Common.{arith, rules}
use Rattle.desk.proofs.ListenerLaws.{receives-short, receives-refused, opened-short, receives-opened}
use Rattle.desk.proofs.Listener.receive.Goals as goal

pub returns-then-packet-lt12 : goal.returns-then-packet-lt12
returns-then-packet-lt12 c = receives-short c.args.self.now c.args.packet.now c.args.out.now (omega arith)

pub overflow_cast-finished : goal.overflow_cast-finished
overflow_cast-finished c =
    let short = opened-short c.args.self.now c.args.packet.now c.args.out.now (omega arith) _ _ _ c.receiver_for-receiver.ensures c.receive_media-after.ensures (search rules) _ c.in-Ok.is in
    omega arith

pub overflow_add-result : goal.overflow_add-result
overflow_add-result c =
    let short = opened-short c.args.self.now c.args.packet.now c.args.out.now (omega arith) _ _ _ c.receiver_for-receiver.ensures c.receive_media-after.ensures (search rules) _ c.in-Ok.is in
    omega arith

pub returns-in-Err : goal.returns-in-Err
returns-in-Err c = receives-refused c.args.self.now c.args.packet.now c.args.out.now (omega arith) _ _ _ c.receiver_for-receiver.ensures c.receive_media-after.ensures _ c.in-Err.is

pub returns-in-Ok : goal.returns-in-Ok
returns-in-Ok c = receives-opened c.args.self.now c.args.packet.now c.args.out.now (omega arith) _ _ _ c.receiver_for-receiver.ensures c.receive_media-after.ensures (search rules) _ c.in-Ok.is _ c.store.ensures
