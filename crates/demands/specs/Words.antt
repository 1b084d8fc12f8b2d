-- The words of demands 2 and 3 (01, 'The words of demand 3'), in terms of the set-up and the list of calls. What 01 calls one set-up is
-- one value of `SetUp`, the integrity transform and its rate among its settings. Assumes nothing.
use Rattle.std.specs.Prelude.{ℕ, ◌+◌, ◌-◌, ◌/◌, ◌%◌, ◌^◌, ◌≤◌, ◌<◌, ◌≡◌, Bool, true, false, List, length, take, Option, None, Some, Ok, Err}
use Rattle.rtp.specs.Rtp.{is_rtp, sequence_number, rtp_ssrc}
use Rattle.rtp.specs.Rtcp.{is_rtcp, rtcp_ssrc}
use Rattle.rtp.specs.Protected.{authenticated_portion, tag_of, word_of, e_flag}
use Rattle.transforms.specs.Rcc.{carries_counter}
use Rattle.replay.specs.Accepted.{mem, highest_of}
use Rattle.srtp.specs.Outcomes.{Outcome, Answer, answer_of, buffer_of}
use Rattle.session.specs.Packets.{control_tag_length, encrypts}
use Rattle.session.specs.SetUps.{SetUp, listed}
use Rattle.srtp.specs.Contexts.{start_highest, set_up_receiver}
use Rattle.srtp.specs.Calls.{max_packet_length}
use Rattle.demands.specs.Runs.{Kind, media, control, Call, accepted}
use Rattle.demands.specs.Rfc3711.{srtp_tag, srtp_packet, srtcp_tag, srtcp_packet}

-- ---- what a call answers
-- a finished packet with index i (01: sent at i, of a call that sends; let in as i, of a call that receives)
abbrev pub FinishedAt : {S : Type 0} → Outcome S → (index : ℕ) → Type 0
FinishedAt o i = (len : ℕ) × (answer_of o ≡ Ok (record { len = len; index = i }))

-- what comes out: the outgoing buffer from its start for the answered length
abbrev pub answered_length : Answer → ℕ
answered_length (Ok f) = f.len
answered_length (Err n) = 0

abbrev pub comes_out : {S : Type 0} → Outcome S → (buffer : List ℕ) → List ℕ
comes_out o d = take (answered_length (answer_of o)) (buffer_of o d)

-- a finished packet with index i that comes out as b, whole
pub record Finishes {S : Type 0} (o : Outcome S) (buffer b : List ℕ) (i : ℕ) : Type 0 where
  pub answer : answer_of o ≡ Ok (record { len = length b; index = i })
  pub out_is : comes_out o buffer ≡ b

-- ---- made (01)
-- what RFC 3711 makes of the plain packet p at index i, for control with the sender's E
abbrev pub protected : Kind → SetUp → (packet : List ℕ) → (index : ℕ) → List ℕ
protected media u p i = srtp_packet u p i
protected control u p i = srtcp_packet u (encrypts u.profile.cipher) p i

abbrev pub is_packet : Kind → List ℕ → Bool
is_packet media = is_rtp
is_packet control = is_rtcp

abbrev pub packet_ssrc : Kind → List ℕ → ℕ
packet_ssrc media = rtp_ssrc
packet_ssrc control = rtcp_ssrc

-- for media the packet's number is i mod 65,536 and i is at most 2^48 - 1; for control i is at most 2^31 - 1
abbrev pub HasIndex : Kind → (packet : List ℕ) → (index : ℕ) → Type 0
HasIndex media p i = (sequence_number p ≡ i % 65536) × (i ≤ 2 ^ 48 - 1)
HasIndex control p i = i ≤ 2 ^ 31 - 1

-- a plain packet for index i that a sender's LONG, SHAPE and STREAM let pass, under a set-up that row 1 does not refuse
pub record Plain (k : Kind) (u : SetUp) (p : List ℕ) (i : ℕ) : Type 0 where
  pub ready : listed u ≡ true
  pub not_long : length p ≤ max_packet_length
  pub shape : is_packet k p ≡ true
  pub stream : packet_ssrc k p ≡ u.ssrc
  pub has_index : HasIndex k p i

-- the bytes b are made at index i from the packet p; no sender need have reached i
pub record Made (k : Kind) (u : SetUp) (p : List ℕ) (i : ℕ) (b : List ℕ) : Type 0 where
  pub plain : Plain k u p i
  pub bytes : b ≡ protected k u p i

-- ---- a protected packet as it is received
-- the E bit of a control packet
abbrev pub received_e : SetUp → List ℕ → Bool
received_e u b = e_flag (word_of (authenticated_portion (length u.mki) control_tag_length b))

-- what RFC 3711 makes of p at i, for control with the E bit that the bytes received have
abbrev pub protected_as : Kind → SetUp → (received packet : List ℕ) → (index : ℕ) → List ℕ
protected_as media u b p i = srtp_packet u p i
protected_as control u b p i = srtcp_packet u (received_e u b) p i

-- its tag is the one for index i (a control packet's index is in the bytes that the tag is over)
abbrev pub TagFor : Kind → SetUp → (received : List ℕ) → (index : ℕ) → Type 0
TagFor media u b i =
    let n = u.profile.tag_len in
    tag_of n b ≡ srtp_tag u (authenticated_portion (length u.mki) n b) i
TagFor control u b i = tag_of control_tag_length b ≡ srtcp_tag u (authenticated_portion (length u.mki) control_tag_length b)

-- ---- a receiver's list of calls
-- i carries a rollover counter (01)
abbrev pub Carries : (index rollover : ℕ) → Type 0
Carries i rollover = i / 65536 ≡ rollover

-- whether a packet has its whole index in it: a control packet always (RFC 3711, 3.4), a media packet where its tag carries the rollover
-- counter (RFC 4771, 2)
abbrev pub has_whole_index : Kind → SetUp → (index : ℕ) → Bool
has_whole_index media u i = carries_counter u.profile.integrity (i % 65536)
has_whole_index control u i = true

-- at most 1,023 behind the highest index. A packet without its whole index is at most 32,767 ahead of it too, and carries the rollover
-- counter that set-up gave where there is no highest index; one that has it may be ahead by any amount, and have any index where there is
-- none
abbrev pub Reaches : (whole : Bool) → (rollover : ℕ) → Option ℕ → (index : ℕ) → Type 0
Reaches false rollover None i = Carries i rollover
Reaches false rollover (Some h) i = (h ≤ i + 1023) × (i ≤ h + 32767)
Reaches true rollover None i = Unit {0}
Reaches true rollover (Some h) i = h ≤ i + 1023

module _ (u : SetUp) (rollover : ℕ) (number : Option ℕ) where
  -- the indices accepted as k (01: let in) by a list of calls from set-up on
  abbrev pub accepted_as : Kind → List Call → List ℕ
  accepted_as k cs = accepted k (set_up_receiver u rollover number).context cs

  -- the receiver's highest index after a list of calls (01): the largest among the indices accepted and, for media, the H that set-up
  -- gives where it is given a last sequence number. With none of these there is none.
  abbrev pub highest_at_start : Kind → Option ℕ
  highest_at_start media = start_highest rollover number
  highest_at_start control = None

  abbrev pub highest : Kind → List Call → Option ℕ
  highest k cs = highest_of (highest_at_start k) (accepted_as k cs)

  -- new (01): no call of the list accepted i as k
  abbrev pub New : Kind → List Call → (index : ℕ) → Type 0
  New k cs i = mem i (accepted_as k cs) ≡ false

  abbrev pub WithinReach : Kind → List Call → (index : ℕ) → Type 0
  WithinReach k cs i = Reaches (has_whole_index k u i) rollover (highest k cs) i

-- what set-up is given is a 32-bit rollover counter and a 16-bit sequence number
abbrev pub NumberFits : Option ℕ → Type 0
NumberFits None = Unit {0}
NumberFits (Some q) = q < 65536
