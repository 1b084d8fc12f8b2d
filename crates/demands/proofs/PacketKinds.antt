-- What the two kinds of packet have in common, in the terms of a session and of a receiver's context. Assumes nothing.
use Prim.Native.Nat.{ℕ, ◌≤◌}
use mathlib.Core.Path.{◌≡◌}
use mathlib.Core.Bool.{true}
use mathlib.Core.List.{List}
use lib.ListN.{length}
use Rattle.rtp.specs.Protected.{word_of, e_flag, tag_of}
use Rattle.replay.specs.Index.{max_media_index, max_control_index}
use Rattle.replay.specs.Window.{window_length, window_mark}
use Rattle.replay.specs.declared.window.Window.{Window}
use Rattle.session.specs.declared.Session.{Session}
use Rattle.srtp.specs.declared.Receiver.{Receiver}
use Rattle.session.specs.Packets.{control_tag_length, cipher_of, ssrc_of, tag_length, media_tag, srtp, encrypts, control_tag, srtcp}
use Rattle.srtp.specs.Contexts.{receiver_listed}
use Rattle.srtp.specs.Calls.{max_packet_length, media_portion, control_received}
use Rattle.demands.specs.Runs.{Kind, media, control}
use Rattle.demands.specs.Words.{is_packet, packet_ssrc}

-- what a packet becomes
abbrev pub sent_as : Kind → Session → (packet : List ℕ) → (index : ℕ) → List ℕ
sent_as media s p i = srtp s p i
sent_as control s p i = srtcp s (encrypts (cipher_of s)) p i

-- the bytes received are the packet's, for control with the E bit that they have
abbrev pub ReadAs : Kind → Session → (received packet : List ℕ) → (index : ℕ) → Type 0
ReadAs media s b p i = b ≡ srtp s p i
ReadAs control s b p i = b ≡ srtcp s (e_flag (word_of (control_received s b))) p i

abbrev pub TaggedAs : Kind → Session → (received : List ℕ) → (index : ℕ) → Type 0
TaggedAs media s b i = tag_of (tag_length s) b ≡ media_tag s (media_portion s b) i
TaggedAs control s b i = tag_of control_tag_length b ≡ control_tag s (control_received s b)

-- ---- a receiver's two windows
abbrev pub max_index : Kind → ℕ
max_index media = max_media_index
max_index control = max_control_index

abbrev pub window_of : Kind → Receiver → Window
window_of media r = r.media
window_of control r = r.control

-- the receiver with i accepted
abbrev pub marked : Kind → Receiver → (index : ℕ) → Receiver
marked media r i =
    record { session = r.session; rollover = r.rollover; media = window_mark window_length r.media i; control = r.control }
marked control r i =
    record { session = r.session; rollover = r.rollover; media = r.media; control = window_mark window_length r.control i }

-- the rows on context, packet and index of a receiver r let the packet p at index i pass: all but KEY and FORGED, which are on the bytes
-- behind it, and OLD and REPEAT, which are the window's
pub record Admits (k : Kind) (r : Receiver) (p : List ℕ) (i room : ℕ) : Type 0 where
  pub row1 : receiver_listed r ≡ true
  pub not_long : length p ≤ max_packet_length
  pub shape : is_packet k p ≡ true
  pub stream : packet_ssrc k p ≡ ssrc_of r.session
  pub fits : length p ≤ room
  pub below : i ≤ max_index k
