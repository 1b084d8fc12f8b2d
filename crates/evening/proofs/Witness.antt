-- Two evenings that are as supposed, one without RFC 4771's transform and one with it, and what is accepted in them. No cipher and no tag is
-- computed. Assumes nothing.
use Prim.Native.Nat.{ℕ, zero, suc, ◌+◌, ◌-◌, ◌*◌, ◌^◌, ◌≤◌}
use native.Mathlib.Omega.{arith}
use mathlib.Core.Path.{◌≡◌, refl, subst}
use mathlib.Core.Logic.{inl, inr}
use mathlib.Core.Bool.{Bool, true, false}
use mathlib.Core.List.{List, [], ◌∷◌, ◌++◌, append_assoc, append-nil, nil≢cons, head-eq_of_cons-eq, tail-eq_of_cons-eq}
use lib.ListN.{length, take, replicate}
use Rattle.std.specs.Prelude.{None}
use Rattle.octets.specs.BigEndian.{Bytes, to_bytes}
use Rattle.octets.proofs.BigEndianLaws.{bytes-to_bytes}
use Rattle.rtp.specs.Rtp.{header_length, is_rtp, sequence_number, rtp_ssrc}
use Rattle.rtp.specs.Rtcp.{is_rtcp, rtcp_ssrc}
use Rattle.rtp.specs.Protected.{authenticated_portion}
use Rattle.replay.specs.Accepted.{highest_of}
use Rattle.transforms.specs.declared.Cipher.TheVariants.{Aes}
use Rattle.transforms.specs.declared.Integrity.{Integrity}
use Rattle.transforms.specs.declared.Integrity.TheVariants.{HmacSha1, Rccm2}
use Rattle.session.specs.declared.Session.{Session}
use Rattle.session.specs.Packets.{tag_length, mki_bytes, srtp}
use Rattle.session.specs.SetUps.{SetUp, listed, session_of}
use Rattle.srtp.specs.declared.Receiver.{Receiver}
use Rattle.srtp.specs.declared.Refusal.TheVariants.{Setup, Shape}
use Rattle.srtp.specs.Contexts.{sender_listed, set_up_sender, receiver_listed}
use Rattle.srtp.specs.Calls.{media_portion, send_media, send_control, receive_media}
use Rattle.demands.specs.Runs.{media, control, Call, sender_outcome}
use Rattle.demands.specs.Words.{FinishedAt, has_whole_index, accepted_as}
use Rattle.evening.specs.Evening.{Genuine, packet_of, Event, genuine, strange, other, calls_of, delivered, outcome_of, IsRefused, KeepsUp, Supposed}
use Rattle.evening.proofs.EventLaws.{control-other}
use Rattle.evening.proofs.WholeEvening.{whole-evening, plain-evening}

-- ---- what is supposed of an evening, one event after the other
module _ {u : SetUp} {run : List Call} where
  abbrev pub Each : (List (Event u run) → Event u run → Type 0) → (before rest : List (Event u run)) → Type 0
  Each P before [] = Unit {0}
  Each P before (e ∷ es) = P before e × Each P (before ++ (e ∷ [])) es

  each-comes : (P : List (Event u run) → Event u run → Type 0) (before rest : List (Event u run)) → Each P before rest →
      (more : List (Event u run)) (e : Event u run) (after : List (Event u run)) → rest ≡ more ++ (e ∷ after) → P (before ++ more) e
  each-comes P before [] h [] e after q = absurd (nil≢cons q)
  each-comes P before [] h (x ∷ more) e after q = absurd (nil≢cons q)
  each-comes P before (y ∷ rest) h [] e after q = rw (append-nil before) (subst (λ (x : Event u run). P before x) (head-eq_of_cons-eq q) h.0)
  each-comes P before (y ∷ rest) h (x ∷ more) e after q =
      rw (← append_assoc before (x ∷ []) more)
      (each-comes P (before ++ (x ∷ [])) rest
      (subst (λ (z : Event u run). Each P (before ++ (z ∷ [])) rest) (head-eq_of_cons-eq q) h.1) more e after (tail-eq_of_cons-eq q))

  abbrev pub SupposedOf : (whole : ℕ → Bool) → (rollover : ℕ) → (before : List (Event u run)) → Event u run → Type 0
  SupposedOf whole rollover before (genuine g d) =
      KeepsUp (whole g.index) rollover (highest_of None (delivered before)) g.index × (length (packet_of g) ≤ length d)
  SupposedOf whole rollover before (strange b d) = IsRefused (outcome_of rollover before (strange b d))
  SupposedOf whole rollover before (other c n) = Unit {0}

  pub supposed : (whole : ℕ → Bool) (rollover : ℕ) (evening : List (Event u run)) → Each (SupposedOf whole rollover) [] evening →
      Supposed whole u rollover run evening
  supposed whole rollover evening h =
      let at = each-comes (SupposedOf whole rollover) [] evening h in
      record {
        keeps_up = λ before g d c. (at before (genuine g d) c.0 c.1).0;
        room = λ before g d c. (at before (genuine g d) c.0 c.1).1;
        strange_refused = λ before b d c. at before (strange b d) c.0 c.1;
      }

-- ---- the calls
abbrev pub set_up : Integrity → (tag : ℕ) → SetUp
set_up t n =
    record {
      ssrc = 1;
      master_key = replicate 16 0;
      master_salt = replicate 14 0;
      mki = [];
      profile = record { cipher = Aes; integrity = t; tag_len = n };
    }

-- a packet with this number and no payload
abbrev pub numbered : (number : ℕ) → List ℕ
numbered q = to_bytes 12 (2 ^ 95 + q * 2 ^ 64 + 1)

pub numbered-bytes : (q : ℕ) → Bytes (numbered q)
numbered-bytes q = bytes-to_bytes 12 (2 ^ 95 + q * 2 ^ 64 + 1)

abbrev pub sends : (number : ℕ) → Call
sends q = record { kind = media; packet = numbered q; buffer = replicate 26 0 }

-- of a run the packet with number q
abbrev pub packet_at : (u : SetUp) (earlier : List Call) (q : ℕ) (later : List Call) (i : ℕ) → FinishedAt (sender_outcome u earlier (sends q)) i →
    Genuine u (earlier ++ (sends q ∷ later))
packet_at u earlier q later i s =
    record { earlier = earlier; call = sends q; later = later; in_run = refl; is_media = refl; index = i; sent = s }

abbrev pub as_control : Call
as_control = record { kind = control; packet = numbered 7; buffer = [] }

-- no bytes at all are refused by every receiver
take_none : (n : ℕ) → take {A = ℕ} n [] ≡ []
take_none zero = refl
take_none (suc n) = refl

empty-portion : (s : Session) → media_portion s [] ≡ []
unfolding authenticated_portion
empty-portion s = take_none (0 - (length (mki_bytes s) + tag_length s))

pub empty-refused : (r : Receiver) (room : ℕ) → IsRefused (receive_media r [] room)
unfolding receive_media is_rtp header_length
empty-refused r room = go (receiver_listed r) refl
  where
    go : (t : Bool) → receiver_listed r ≡ t → IsRefused (receive_media r [] room)
    go true e = (Shape, rw (e, empty-portion r.session))
    go false e = (Setup, rw e)

-- ---- without the transform: two packets about the rollover of the sequence number, with a control call between them; the first comes again
abbrev pub plain : SetUp
plain = set_up HmacSha1 10

abbrev pub plain_run : List Call
plain_run = sends 65535 ∷ as_control ∷ sends 0 ∷ []

unfoldable pub p₁ : Genuine plain plain_run
unfolding send_media sender_listed is_rtp header_length sequence_number rtp_ssrc mki_bytes session_of set_up_sender listed
p₁ = packet_at plain [] 65535 (as_control ∷ sends 0 ∷ []) 65535 (length (srtp (session_of plain) (numbered 65535) 65535), refl)

unfoldable pub p₂ : Genuine plain plain_run
unfolding send_media send_control is_rtcp rtcp_ssrc sender_listed is_rtp header_length sequence_number rtp_ssrc mki_bytes session_of set_up_sender listed
p₂ = packet_at plain (sends 65535 ∷ as_control ∷ []) 0 [] 65536 (length (srtp (session_of plain) (numbered 0) 65536), refl)

abbrev plain_evening : List (Event plain plain_run)
plain_evening =
    strange [] [] ∷ genuine p₁ (replicate 12 0) ∷ other as_control control-other ∷ strange [] [] ∷ genuine p₂ (replicate 12 0)
    ∷ genuine p₁ (replicate 12 0) ∷ []

plain-supposed : Supposed (λ i. false) plain 0 plain_run plain_evening
unfolding p₁ p₂
plain-supposed =
    supposed (λ i. false) 0 plain_evening (
      empty-refused _ 0,
      (
        (refl, omega arith),
        (
          tt,
          (
            empty-refused _ 0,
            ((inr (omega arith, omega arith), omega arith), ((inl (omega arith, omega arith), omega arith), tt)),
          ),
        ),
      ),
    )

plain-indices : accepted_as plain 0 None media (calls_of plain_evening) ≡ 65535 ∷ 65536 ∷ []
unfolding p₁ p₂
plain-indices =
    (plain-evening plain 0 plain_run plain_evening (omega arith) (numbered-bytes 65535, (numbered-bytes 7, (numbered-bytes 0, tt))) plain-supposed
    ).indices

-- ---- with it: each packet of the run carries the rollover counter. The second is lost, so the third is 60,000 ahead; and the receiver was set
-- up with a rollover counter that no packet has
abbrev carrying : SetUp
carrying = set_up (Rccm2 30000) 14

abbrev carrying_run : List Call
carrying_run = sends 0 ∷ sends 30000 ∷ sends 60000 ∷ []

unfoldable q₁ : Genuine carrying carrying_run
unfolding send_media sender_listed is_rtp header_length sequence_number rtp_ssrc mki_bytes session_of set_up_sender listed
q₁ = packet_at carrying [] 0 (sends 30000 ∷ sends 60000 ∷ []) 0 (length (srtp (session_of carrying) (numbered 0) 0), refl)

unfoldable q₃ : Genuine carrying carrying_run
unfolding send_media sender_listed is_rtp header_length sequence_number rtp_ssrc mki_bytes session_of set_up_sender listed
q₃ = packet_at carrying (sends 0 ∷ sends 30000 ∷ []) 60000 [] 60000 (length (srtp (session_of carrying) (numbered 60000) 60000), refl)

abbrev carrying_evening : List (Event carrying carrying_run)
carrying_evening = genuine q₁ (replicate 12 0) ∷ strange [] [] ∷ genuine q₃ (replicate 12 0) ∷ genuine q₃ (replicate 12 0) ∷ []

carrying-supposed : Supposed (has_whole_index media carrying) carrying 7 carrying_run carrying_evening
unfolding q₁ q₃
carrying-supposed =
    supposed (has_whole_index media carrying) 7 carrying_evening
    ((tt, omega arith), (empty-refused _ 0, ((inr (omega arith), omega arith), ((inl (omega arith, omega arith), omega arith), tt))))

carrying-indices : accepted_as carrying 7 None media (calls_of carrying_evening) ≡ 0 ∷ 60000 ∷ []
unfolding q₁ q₃
carrying-indices =
    (whole-evening carrying 7 carrying_run carrying_evening (omega arith) (numbered-bytes 0, (numbered-bytes 30000, (numbered-bytes 60000, tt)))
    carrying-supposed).indices
