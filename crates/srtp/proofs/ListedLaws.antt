-- What row 1 leaves: the lengths that set-up lists. Assumes nothing.
use Rattle.std.specs.Prelude.{◌≡◌, Bool, true}
use Rattle.std.proofs.lemmas.Bool.{and_parts}
use mathlib.Core.Path.{sym, ◌∙◌}
use Rattle.session.specs.SetUps.{settings_listed}
use Rattle.session.proofs.SessionLaws.{Listed, settings-listed}
use Rattle.srtp.specs.Contexts.{sender_listed, receiver_listed}
use Rattle.srtp.specs.declared.Sender.{Sender}
use Rattle.srtp.specs.declared.Receiver.{Receiver}

pub sender_lengths : (c : Sender) (g : Bool) → g ≡ sender_listed c → g ≡ true → Listed c.session.settings
unfolding sender_listed
sender_lengths c g e h = settings-listed c.session.settings (and_parts (settings_listed c.session.settings) _ (sym e ∙ h)).0

pub receiver_lengths : (c : Receiver) (g : Bool) → g ≡ receiver_listed c → g ≡ true → Listed c.session.settings
unfolding receiver_listed
receiver_lengths c g e h = settings-listed c.session.settings (and_parts (settings_listed c.session.settings) _ (sym e ∙ h)).0
