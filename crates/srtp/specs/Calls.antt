-- The four calls on a packet, each a total definition: context, bytes to read and length of the buffer in, outcome out. The rows of each
-- stand in the order of the table of refusals, without those that do not concern it. Assumes nothing.
use Rattle.std.specs.Prelude.{ℕ, ◌+◌, Bool, true, false, cond, not, List, [], ◌∷◌, eqb, leb, ltb, ℤ, pos, negsuc, length, Result, Ok, Err}
use Rattle.octets.specs.Equal.{same}
use Rattle.rtp.specs.Rtp.{is_rtp, sequence_number, rtp_ssrc}
use Rattle.rtp.specs.Rtcp.{is_rtcp, rtcp_ssrc}
use Rattle.rtp.specs.Protected.{authenticated_portion, mki_of, tag_of, rtcp_portion, word_of, e_flag, srtcp_index}
use Rattle.transforms.specs.Rcc.{carries_counter, carried_counter}
use Rattle.replay.specs.Index.{max_media_index, max_control_packets, index_of, estimate, next_index, out_of_order, media_after, control_after}
use Rattle.replay.specs.Window.{window_length, window_verdict, window_mark}
use Rattle.replay.specs.declared.window.Window.{Window}
use Rattle.replay.specs.declared.window.Replayed.{Replayed}
use Rattle.replay.specs.declared.window.Replayed.TheVariants as replayed
use Rattle.srtp.specs.declared.Refusal.TheVariants.{Setup, Long, Shape, Stream, Room, Key, Order, Spent, Old, Repeat, Forged}
use Rattle.session.specs.declared.Session.{Session}
use Rattle.srtp.specs.declared.Sender.{Sender}
use Rattle.srtp.specs.declared.Receiver.{Receiver}
use Rattle.srtp.specs.Refusals.{Row, row, judged}
use Rattle.srtp.specs.Outcomes.{Outcome, done, settled}
use Rattle.session.specs.Packets.{control_tag_length, cipher_of, integrity_of, ssrc_of, tag_length, mki_bytes, ciphered_media, media_tag, srtp, encrypts, ciphered_control, control_tag, srtcp}
use Rattle.srtp.specs.Contexts.{sender_listed, receiver_listed}

-- a plain packet has at most so many bytes
abbrev pub max_packet_length : ℕ
max_packet_length = 2048

-- ---- sending media
abbrev pub send_media_rows : Sender → (packet : List ℕ) → (room : ℕ) → List Row
send_media_rows c p room =
    let s = c.session in
    row (not (sender_listed c)) Setup
    ∷ row (ltb max_packet_length (length p)) Long
    ∷ row (not (is_rtp p)) Shape
    ∷ row (not (eqb (rtp_ssrc p) (ssrc_of s))) Stream
    ∷ row (ltb room (length p + length (mki_bytes s) + tag_length s)) Room
    ∷ row (out_of_order c.media.last (sequence_number p)) Order
    ∷ row (ltb max_media_index (next_index c.media.last (sequence_number p))) Spent
    ∷ []

abbrev pub media_sent : Sender → (packet : List ℕ) → (index : ℕ) → Outcome Sender
media_sent c p i = done (srtp c.session p i) i (record { session = c.session; media = media_after i; control = c.control })

unfoldable pub send_media : Sender → (packet : List ℕ) → (room : ℕ) → Outcome Sender
send_media c p room = settled (judged (send_media_rows c p room)) (media_sent c p (next_index c.media.last (sequence_number p)))

-- ---- sending control
abbrev pub send_control_rows : Sender → (packet : List ℕ) → (room : ℕ) → List Row
send_control_rows c p room =
    let s = c.session in
    row (not (sender_listed c)) Setup
    ∷ row (ltb max_packet_length (length p)) Long
    ∷ row (not (is_rtcp p)) Shape
    ∷ row (not (eqb (rtcp_ssrc p) (ssrc_of s))) Stream
    ∷ row (ltb room (length p + 4 + length (mki_bytes s) + control_tag_length)) Room
    ∷ row (leb max_control_packets c.control.sent) Spent
    ∷ []

abbrev pub control_sent : Sender → (packet : List ℕ) → (index : ℕ) → Outcome Sender
control_sent c p i =
    let s = c.session in
    done (srtcp s (encrypts (cipher_of s)) p i) i (record { session = s; media = c.media; control = control_after c.control })

unfoldable pub send_control : Sender → (packet : List ℕ) → (room : ℕ) → Outcome Sender
send_control c p room = settled (judged (send_control_rows c p room)) (control_sent c p c.control.sent)

-- ---- receiving: rows 8 to 10 at an index, which may lie below 0
abbrev pub too_high : ℤ → Bool
too_high (pos i) = ltb max_media_index i
too_high (negsuc j) = false

abbrev pub is_old : Result Unit Replayed → Bool
is_old (Err replayed.Old) = true
is_old (Err replayed.Repeat) = false
is_old (Ok u) = false

abbrev pub is_repeat : Result Unit Replayed → Bool
is_repeat (Err replayed.Old) = false
is_repeat (Err replayed.Repeat) = true
is_repeat (Ok u) = false

abbrev pub old : Window → ℤ → Bool
old w (pos i) = is_old (window_verdict window_length w i)
old w (negsuc j) = true

abbrev pub natural : ℤ → ℕ
natural (pos i) = i
natural (negsuc j) = 0

-- ---- receiving media
-- header and enciphered payload of a protected packet
abbrev pub media_portion : Session → List ℕ → List ℕ
media_portion s b = authenticated_portion (length (mki_bytes s)) (tag_length s) b

-- its index: where the tag carries the rollover counter (RFC 4771, 2) it is read from tag and number; else it is estimated
abbrev pub media_place : Receiver → (number : ℕ) → (tag : List ℕ) → ℤ
media_place c q t =
    cond (carries_counter (integrity_of c.session) q) (pos (index_of (carried_counter t) q)) (estimate c.rollover q c.media.highest)

abbrev pub media_index : Receiver → List ℕ → ℤ
media_index c b =
    let s = c.session in
    media_place c (sequence_number (media_portion s b)) (tag_of (tag_length s) b)

abbrev pub receive_media_rows : Receiver → (packet : List ℕ) → (room : ℕ) → (index : ℤ) → List Row
receive_media_rows c b room index =
    let s = c.session in
    let a = media_portion s b in
    row (not (receiver_listed c)) Setup
    ∷ row (ltb max_packet_length (length a)) Long
    ∷ row (not (is_rtp a)) Shape
    ∷ row (not (eqb (rtp_ssrc a) (ssrc_of s))) Stream
    ∷ row (ltb room (length a)) Room
    ∷ row (not (same (mki_of (length (mki_bytes s)) (tag_length s) b) (mki_bytes s))) Key
    ∷ row (too_high index) Spent
    ∷ row (old c.media index) Old
    ∷ row (is_repeat (window_verdict window_length c.media (natural index))) Repeat
    ∷ row (not (same (tag_of (tag_length s) b) (media_tag s a (natural index)))) Forged
    ∷ []

abbrev pub media_opened : Receiver → (packet : List ℕ) → (index : ℕ) → Outcome Receiver
media_opened c b i =
    let s = c.session in
    done (ciphered_media s (media_portion s b) i) i
    (record { session = s; rollover = c.rollover; media = window_mark window_length c.media i; control = c.control })

unfoldable pub receive_media : Receiver → (packet : List ℕ) → (room : ℕ) → Outcome Receiver
receive_media c b room = settled (judged (receive_media_rows c b room (media_index c b))) (media_opened c b (natural (media_index c b)))

-- ---- receiving control
-- everything before the MKI, the word with E and the index at its end
abbrev pub control_received : Session → List ℕ → List ℕ
control_received s b = authenticated_portion (length (mki_bytes s)) control_tag_length b

abbrev pub control_index : Session → List ℕ → ℕ
control_index s b = srtcp_index (word_of (control_received s b))

abbrev pub receive_control_rows : Receiver → (packet : List ℕ) → (room : ℕ) → (index : ℕ) → List Row
receive_control_rows c b room i =
    let s = c.session in
    let p = rtcp_portion (control_received s b) in
    row (not (receiver_listed c)) Setup
    ∷ row (ltb max_packet_length (length p)) Long
    ∷ row (not (is_rtcp p)) Shape
    ∷ row (not (eqb (rtcp_ssrc p) (ssrc_of s))) Stream
    ∷ row (ltb room (length p)) Room
    ∷ row (not (same (mki_of (length (mki_bytes s)) control_tag_length b) (mki_bytes s))) Key
    ∷ row (is_old (window_verdict window_length c.control i)) Old
    ∷ row (is_repeat (window_verdict window_length c.control i)) Repeat
    ∷ row (not (same (tag_of control_tag_length b) (control_tag s (control_received s b)))) Forged
    ∷ []

abbrev pub control_opened : Receiver → (packet : List ℕ) → (index : ℕ) → Outcome Receiver
control_opened c b i =
    let s = c.session in
    let a = control_received s b in
    done (ciphered_control s (e_flag (word_of a)) (rtcp_portion a) i) i
    (record { session = s; rollover = c.rollover; media = c.media; control = window_mark window_length c.control i })

unfoldable pub receive_control : Receiver → (packet : List ℕ) → (room : ℕ) → Outcome Receiver
receive_control c b room =
    settled (judged (receive_control_rows c b room (control_index c.session b))) (control_opened c b (control_index c.session b))
