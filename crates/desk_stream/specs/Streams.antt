-- The sale desk as one receiver's run, and a sender's run through it. Proved of every key file, every input and every run of a sender
-- (`one-stream` in proofs/OneStream, `desk-opens` in proofs/DeskOpens, `sent-through` in proofs/SentThrough), and of every run of the code
-- (proofs/DeskRuns). Assumes nothing.
use Rattle.std.specs.Prelude.{ℕ, List, [], ◌∷◌, ◌++◌, ◌⊎◌, ◌≡◌, replicate}
use Rattle.replay.specs.Accepted.{Once}
use Rattle.rtp.specs.Rtp.{rtp_ssrc}
use Rattle.session.specs.SetUps.{SetUp}
use Rattle.srtp.specs.Calls.{max_packet_length}
use Rattle.srtp.specs.Contexts.{set_up_sender}
use Rattle.srtp.specs.Outcomes.{Outcome, refused, done, next_of}
use Rattle.srtp.specs.declared.Receiver.{Receiver}
use Rattle.srtp.specs.declared.Sender.{Sender}
use Rattle.demands.specs.Runs.{Kind, media, control, Call, sending, receiving}
use Rattle.demands.specs.Words.{FinishedAt, comes_out}
use Rattle.demands.specs.Demands.{Opened}
use Rattle.evening.specs.Evening.{IsRefused}
use Rattle.desk.specs.Framing.{packets, frames}
use Rattle.desk.specs.Listening.{set_up_under, fresh, written, served, start, output}

-- ---- a packet as the desk receives it: as media, with room for any
unfoldable pub room : List ℕ
room = replicate max_packet_length 0

abbrev pub as_media : (packet : List ℕ) → Call
as_media p = record { kind = media; packet = p; buffer = room }

abbrev pub as_media_all : List (List ℕ) → List Call
as_media_all [] = []
as_media_all (p ∷ ps) = as_media p ∷ as_media_all ps

-- what comes of a receiver's calls, in frames
abbrev pub frames_out : Receiver → List Call → List ℕ
frames_out r [] = []
frames_out r (c ∷ cs) = written (receiving r c) ++ frames_out (next_of (receiving r c) r) cs

-- ---- the packets of an input
-- each is refused by a fresh receiver under its own SSRC
abbrev pub EachRefused : (key : List ℕ) → List (List ℕ) → Type 0
EachRefused key [] = Unit {0}
EachRefused key (p ∷ ps) = IsRefused (receiving (fresh key (rtp_ssrc p)) (as_media p)) × EachRefused key ps

-- the first, if there is one, has this SSRC, and a fresh receiver under it lets it in
abbrev pub Fixes : (key : List ℕ) → (ssrc : ℕ) → List (List ℕ) → Type 0
Fixes key ssrc [] = Unit {0}
Fixes key ssrc (p ∷ ps) = (rtp_ssrc p ≡ ssrc) × (i : ℕ) × FinishedAt (receiving (fresh key ssrc) (as_media p)) i

-- some that no receiver of their own lets in, and those from the first that one lets in on, which that one receiver gets: what comes of its
-- calls is what the desk writes
pub record OneStream (key : List ℕ) (ps : List (List ℕ)) : Type 0 where
  pub before : List (List ℕ)
  pub stream : List (List ℕ)
  pub ssrc : ℕ
  pub parts : ps ≡ before ++ stream
  pub all_refused : EachRefused key before
  pub fixes : Fixes key ssrc stream
  pub writes : served (start key) ps ≡ frames_out (fresh key ssrc) (as_media_all stream)

-- ---- what the desk opens, in the words of demands 2 and 3
-- bytes that were let in, the packet that came out for them, and its index
pub record Opening : Type 0 where
  pub bytes : List ℕ
  pub packet : List ℕ
  pub index : ℕ

abbrev pub bytes_of : List Opening → List (List ℕ)
bytes_of [] = []
bytes_of (h ∷ hs) = h.bytes ∷ bytes_of hs

abbrev pub packets_of : List Opening → List (List ℕ)
packets_of [] = []
packets_of (h ∷ hs) = h.packet ∷ packets_of hs

abbrev pub indices_of : List Opening → List ℕ
indices_of [] = []
indices_of (h ∷ hs) = h.index ∷ indices_of hs

-- each packet is one that RFC 3711 turns into its bytes at its index
abbrev pub EachOpened : SetUp → List Opening → Type 0
EachOpened u [] = Unit {0}
EachOpened u (h ∷ hs) = Opened media u h.bytes h.packet h.index × EachOpened u hs

-- these are among those, in their order
abbrev pub Among : (these those : List (List ℕ)) → Type 0
Among [] ps = Unit {0}
Among (q ∷ qs) [] = ⊥
Among (q ∷ qs) (p ∷ ps) = ((q ≡ p) × Among qs ps) ⊎ Among (q ∷ qs) ps

-- the output is frames, of packets under one SSRC: each opened from a packet of the input, in the input's order, and no two at one index
pub record DeskOpens (key input : List ℕ) : Type 0 where
  pub ssrc : ℕ
  pub openings : List Opening
  pub writes : output key input ≡ frames (packets_of openings)
  pub among : Among (bytes_of openings) (packets input)
  pub opened : EachOpened (set_up_under key ssrc) openings
  pub once : Once (indices_of openings)

-- ---- a sender's run
-- one packet of a call that sends media and finishes, none of any other
abbrev pub if_media : Kind → Outcome Sender → (packet : List ℕ) → List (List ℕ)
if_media media (refused n) p = []
if_media media (done b i s) p = p ∷ []
if_media control o p = []

-- the media packets that come out of the calls, in order
abbrev pub protected_in : Sender → List Call → List (List ℕ)
protected_in s [] = []
protected_in s (c ∷ cs) = if_media c.kind (sending s c) (comes_out (sending s c) c.buffer) ++ protected_in (next_of (sending s c) s) cs

-- those that the same calls were given
abbrev pub plain_in : Sender → List Call → List (List ℕ)
plain_in s [] = []
plain_in s (c ∷ cs) = if_media c.kind (sending s c) c.packet ++ plain_in (next_of (sending s c) s) cs

abbrev pub protected_by : SetUp → List Call → List (List ℕ)
protected_by u run = protected_in (set_up_sender u).context run

abbrev pub plain_by : SetUp → List Call → List (List ℕ)
plain_by u run = plain_in (set_up_sender u).context run
