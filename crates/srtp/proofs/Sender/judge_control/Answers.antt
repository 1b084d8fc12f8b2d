use mathlib.Core.Path.{refl, sym}
use borrow.Author.Rules.{rules}
use Rattle.std.proofs.lemmas.Bool.{lt-ltb, le-ltb}
use Rattle.srtp.proofs.RowLaws.{residual}
use Rattle.srtp.proofs.SenderLaws.{control_left, no_control_index, control_index_found}
use Rattle.srtp.proofs.Sender.judge_control.Goals as goal

pub returns-then-room-need : goal.returns-then-room-need
returns-then-room-need c =
    let left = control_left c.args.self c.args.packet.now c.args.room (sym c.if-not-listed.ensures) c.if-packet-gt-MAX_PACKET_LEN.false c.in-Some.ensures
    c.if-header-settings.false (search rules) in
    rw (left, lt-ltb _ _ c.if-room-need.true) refl

pub returns-in_err-step : goal.returns-in_err-step
returns-in_err-step c =
    let left = control_left c.args.self c.args.packet.now c.args.room (sym c.if-not-listed.ensures) c.if-packet-gt-MAX_PACKET_LEN.false c.in-Some.ensures
    c.if-header-settings.false (search rules) in
    let s = rw c.step-step.ensures at (c.in_err-step.was) in
    rw (residual c.from_residual.ensures, left, le-ltb _ _ c.if-room-need.false, no_control_index _ _ s) refl

pub returns : goal.returns
returns c =
    let left = control_left c.args.self c.args.packet.now c.args.room (sym c.if-not-listed.ensures) c.if-packet-gt-MAX_PACKET_LEN.false c.in-Some.ensures
    c.if-header-settings.false (search rules) in
    let s = rw c.step-step.ensures at (c.in_ok-step.was) in
    let f = control_index_found c.args.self.control.sent _ s in
    rw (left, le-ltb _ _ c.if-room-need.false, f.0, ← f.1, c.step-step.ensures, s) refl
