-- The call stores the fields that can differ after it: what the struct holds then is the next context.
use Rattle.std.proofs.Common.{◌∙◌}
use Rattle.srtp_c.proofs.Stores.{send-control-stores}
use Rattle.srtp_c.proofs.exports.tindrabek_send_control.Goals as goal

pub returns : goal.returns
returns c =
    let a = c.args in
    let k = c.send_control-after in
    let h = k.ensures in
    record {
      answers = h.answers;
      leaves = send-control-stores a.ctx.now a.packet.now a.out.now k.result k.new.out h ∙ h.leaves;
      writes = h.writes;
    }
