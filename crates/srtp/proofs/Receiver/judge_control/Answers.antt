use mathlib.Core.Path.{refl, sym}
use borrow.Author.Rules.{rules}
use Rattle.srtp.proofs.ControlRows.{control_setup, control_rest}
use Rattle.srtp.proofs.RowLaws.{residual}
use Rattle.srtp.proofs.Receiver.judge_control.Goals as goal

pub returns-then-not-listed : goal.returns-then-not-listed
returns-then-not-listed c = search (rules, control_setup)

pub returns-in_default : goal.returns-in_default
returns-in_default c =
    rw (control_rest c.args.self c.args.packet.now c.args.room (sym c.if-not-listed.ensures) (search rules) c.if-packet-settings.false _ c.in_default.ensures) refl

pub returns-in_err-judge_address : goal.returns-in_err-judge_address
returns-in_err-judge_address c =
    let rest = control_rest c.args.self c.args.packet.now c.args.room (sym c.if-not-listed.ensures) (search rules) c.if-packet-settings.false _ c.in-Some.ensures in
    rw (residual c.from_residual.ensures, rest, ← c.in_err-judge_address.ensures) refl

pub returns-in_err-judge_replay : goal.returns-in_err-judge_replay
returns-in_err-judge_replay c =
    let rest = control_rest c.args.self c.args.packet.now c.args.room (sym c.if-not-listed.ensures) (search rules) c.if-packet-settings.false _ c.in-Some.ensures in
    rw (residual c.from_residual-in_err-judge_replay.ensures, rest, ← c.in_ok-judge_address.ensures, ← c.in_err-judge_replay.ensures) refl

pub returns-then-not-is_control_tag : goal.returns-then-not-is_control_tag
returns-then-not-is_control_tag c =
    let rest = control_rest c.args.self c.args.packet.now c.args.room (sym c.if-not-listed.ensures) (search rules) c.if-packet-settings.false _ c.in-Some.ensures in
    rw (rest, ← c.in_ok-judge_address.ensures, ← c.in_ok-judge_replay.ensures, ← c.if-not-is_control_tag.ensures) refl

pub returns : goal.returns
returns c =
    let rest = control_rest c.args.self c.args.packet.now c.args.room (sym c.if-not-listed.ensures) (search rules) c.if-packet-settings.false _ c.in-Some.ensures in
    rw (rest, ← c.in_ok-judge_address.ensures, ← c.in_ok-judge_replay.ensures, ← c.if-not-is_control_tag.ensures) refl
