-- What the private steps of receiving answer: groups of rows, over the parts of a packet. The contracts of the calls don't cite it.
-- Assumes nothing.
use Rattle.std.specs.Prelude.{Bool, not, List, [], ◌∷◌, ℕ, eqb, ltb, length, take, Result}
use Rattle.octets.specs.Equal.{same}
use Rattle.replay.specs.Index.{placed}
use Rattle.replay.specs.declared.index.OutOfRange.{OutOfRange}
use Rattle.replay.specs.Window.{window_length, window_verdict}
use Rattle.replay.specs.declared.window.Window.{Window}
use Rattle.rtp.specs.Protected.{rtcp_portion, word_of, e_flag}
use Rattle.rtp.specs.Rtp.{header_length}
use Rattle.srtp.specs.Calls.{is_old, is_repeat, natural, media_portion, media_place, media_index, receive_media_rows, control_received, control_index, receive_control_rows}
use Rattle.srtp.specs.Refusals.{Row, row, Judgement, judged, judged_as}
use Rattle.srtp.specs.declared.Receiver.{Receiver}
use Rattle.srtp.specs.declared.Refusal.{Refusal}
use Rattle.srtp.specs.declared.Refusal.TheVariants.{Stream, Room, Key, Old, Repeat}
use Rattle.session.specs.declared.Settings.{Settings}
use Rattle.srtp.specs.declared.receiving.ControlOpening.{ControlOpening}
use Rattle.srtp.specs.declared.receiving.MediaOpening.{MediaOpening}

-- ---- a judgement as the steps answer it
abbrev pub media_as : (header_len len index : ℕ) → Judgement → Result MediaOpening Refusal
media_as header_len len index = judged_as (record { header_len = header_len; len = len; index = index })

abbrev pub control_as : (len : ℕ) → (encrypted : Bool) → (index : ℕ) → Judgement → Result ControlOpening Refusal
control_as len e index = judged_as (record { len = len; encrypted = e; index = index })

-- ---- groups of rows
-- STREAM, ROOM and KEY of a packet with this SSRC and MKI that would give len bytes
abbrev pub address_rows : Settings → (ssrc len room : ℕ) → (mki : List ℕ) → List Row
address_rows s ssrc len room mki =
    row (not (eqb ssrc s.ssrc)) Stream
    ∷ row (ltb room len) Room
    ∷ row (not (same mki (take s.mki_len s.mki))) Key
    ∷ []

-- OLD and REPEAT
abbrev pub replay_rows : Window → (index : ℕ) → List Row
replay_rows w i = row (is_old (window_verdict window_length w i)) Old ∷ row (is_repeat (window_verdict window_length w i)) Repeat ∷ []

-- ---- and what the steps answer
unfoldable pub address_verdict : Settings → (ssrc len room : ℕ) → (mki : List ℕ) → Result Unit Refusal
address_verdict s ssrc len room mki = judged_as tt (judged (address_rows s ssrc len room mki))

unfoldable pub replay_verdict : Window → (index : ℕ) → Result Unit Refusal
replay_verdict w i = judged_as tt (judged (replay_rows w i))

-- the index of a media packet with this number and tag
unfoldable pub placed_media : Receiver → (number : ℕ) → (tag : List ℕ) → Result ℕ OutOfRange
placed_media c number t = placed (media_place c number t)

-- ---- all rows of a call; where none holds, what opening it needs to know
unfoldable pub media_verdict : Receiver → (packet : List ℕ) → (room : ℕ) → Result MediaOpening Refusal
media_verdict c b room =
    let a = media_portion c.session b in
    let i = media_index c b in
    media_as (header_length a) (length a) (natural i) (judged (receive_media_rows c b room i))

unfoldable pub control_verdict : Receiver → (packet : List ℕ) → (room : ℕ) → Result ControlOpening Refusal
control_verdict c b room =
    let a = control_received c.session b in
    let i = control_index c.session b in
    control_as (length (rtcp_portion a)) (e_flag (word_of a)) i (judged (receive_control_rows c b room i))
