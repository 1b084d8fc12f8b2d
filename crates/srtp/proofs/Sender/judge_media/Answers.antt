use mathlib.Core.Path.{refl, sym}
use borrow.Author.Rules.{rules}
use Rattle.std.proofs.lemmas.Bool.{lt-ltb, le-ltb}
use Rattle.srtp.proofs.RowLaws.{residual}
use Rattle.srtp.proofs.SenderLaws.{media_left, no_media_index, media_index_found}
use Rattle.srtp.proofs.Sender.judge_media.Goals as goal

pub returns-then-room-need : goal.returns-then-room-need
returns-then-room-need c =
    let left = media_left c.args.self c.args.packet.now c.args.room (sym c.if-not-listed.ensures) c.if-packet-gt-MAX_PACKET_LEN.false c.in-Some.ensures
    c.if-header-settings.false (search rules) in
    rw (left, lt-ltb _ _ c.if-room-need.true) refl

pub returns-in_err-step : goal.returns-in_err-step
returns-in_err-step c =
    let left = media_left c.args.self c.args.packet.now c.args.room (sym c.if-not-listed.ensures) c.if-packet-gt-MAX_PACKET_LEN.false c.in-Some.ensures
    c.if-header-settings.false (search rules) in
    let s = rw c.step-step.ensures at (c.in_err-step.was) in
    rw (residual c.from_residual.ensures, left, le-ltb _ _ c.if-room-need.false, no_media_index _ _ _ s) refl

pub returns : goal.returns
returns c =
    let left = media_left c.args.self c.args.packet.now c.args.room (sym c.if-not-listed.ensures) c.if-packet-gt-MAX_PACKET_LEN.false c.in-Some.ensures
    c.if-header-settings.false (search rules) in
    let s = rw c.step-step.ensures at (c.in_ok-step.was) in
    let f = media_index_found c.args.self.media.last c.in-Some.header.sequence_number _ s in
    rw (left, le-ltb _ _ c.if-room-need.false, f.0, f.1, c.step-step.ensures, s) refl
