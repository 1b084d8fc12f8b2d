-- What the private steps of sending answer. The contracts of the calls don't cite it. Assumes nothing.
use Rattle.std.specs.Prelude.{ℕ, List, Result}
use Rattle.rtp.specs.Rtp.{header_length, sequence_number}
use Rattle.replay.specs.Index.{next_index, media_after, control_after}
use Rattle.replay.specs.declared.index.ControlSender.{ControlSender}
use Rattle.srtp.specs.declared.Refusal.{Refusal}
use Rattle.srtp.specs.declared.Sender.{Sender}
use Rattle.srtp.specs.declared.sending.MediaProtection.{MediaProtection}
use Rattle.srtp.specs.declared.sending.ControlProtection.{ControlProtection}
use Rattle.srtp.specs.Refusals.{Judgement, judged, judged_as}
use Rattle.srtp.specs.Calls.{send_media_rows, send_control_rows}

abbrev pub media_as : (header_len index : ℕ) → Judgement → Result MediaProtection Refusal
media_as header_len index = judged_as (record { header_len = header_len; index = index; after = media_after index })

abbrev pub control_as : ControlSender → Judgement → Result ControlProtection Refusal
control_as s = judged_as (record { index = s.sent; after = control_after s })

-- the rows of a call; where none holds, what protecting the packet needs to know
unfoldable pub media_verdict : Sender → (packet : List ℕ) → (room : ℕ) → Result MediaProtection Refusal
media_verdict c p room = media_as (header_length p) (next_index c.media.last (sequence_number p)) (judged (send_media_rows c p room))

unfoldable pub control_verdict : Sender → (packet : List ℕ) → (room : ℕ) → Result ControlProtection Refusal
control_verdict c p room = control_as c.control (judged (send_control_rows c p room))
