-- Laws of set-up, of a sender and of a receiver: a run has the session of its set-up; one whose context row 1 does not refuse is of a
-- set-up that was not refused. Assumes nothing.
use Prim.Native.Nat.{ℕ}
use mathlib.Core.Path.{◌≡◌, refl, sym, ap, ◌∙◌}
use mathlib.Core.Bool.{Bool, true, false, cond, true≢false}
use mathlib.Core.List.{List, [], ◌∷◌}
use lib.ListN.{length}
use Rattle.std.specs.Prelude.{Option}
use Rattle.session.specs.declared.Session.{Session}
use Rattle.srtp.specs.declared.Sender.{Sender}
use Rattle.srtp.specs.Outcomes.{Outcome, refused, done, next_of}
use Rattle.session.specs.Packets.{encrypts}
use Rattle.session.specs.SetUps.{closed_session, SetUp, settings_listed, listed, session_of, protect_media, protect_control}
use Rattle.srtp.specs.Contexts.{closed_sender, closed_receiver, start_receiver, set_up_sender, set_up_receiver}
use Rattle.demands.specs.Runs.{Kind, media, control, Call, send, sending, after, sender_after, receiver_after}
use Rattle.demands.specs.Words.{protected}
use Rattle.demands.proofs.Rfc3711Laws.{protect-media, protect-control}
use Rattle.demands.proofs.PacketKinds.{sent_as}
use Rattle.demands.proofs.Sending.{sends}
use Rattle.demands.proofs.ReceiverRuns.{run-kept}

-- what a session makes of a packet is RFC 3711's, in the terms of the set-up
pub protected-is : (k : Kind) (u : SetUp) (p : List ℕ) (i : ℕ) → sent_as k (session_of u) p i ≡ protected k u p i
unfolding protect_media protect_control session_of
protected-is media u p i = protect-media u p i
protected-is control u p i = protect-control u (encrypts u.profile.cipher) p i

-- ---- the session of a run
abbrev first_session : SetUp → Session
first_session u = cond (listed u) (session_of u) closed_session

next-session : (k : Kind) (s : Sender) (p : List ℕ) (room : ℕ) (o : Outcome Sender) → send k s p room ≡ o → (next_of o s).session ≡ s.session
next-session k s p room (refused n) e = refl
next-session k s p room (done b i s') e = (sends k s p room b i s' e).session-kept

run-session : (s : Sender) (cs : List Call) → (after sending s cs).session ≡ s.session
run-session s [] = refl
run-session s (c ∷ cs) =
    run-session (next_of (sending s c) s) cs ∙ next-session c.kind s c.packet (length c.buffer) (sending s c) refl

sender-first : (u : SetUp) → (set_up_sender u).context.session ≡ first_session u
unfolding set_up_sender closed_sender
sender-first u = go (listed u) refl
  where
    go : (t : Bool) → listed u ≡ t → (set_up_sender u).context.session ≡ first_session u
    go true g = rw g
    go false g = rw g

receiver-first : (u : SetUp) (rollover : ℕ) (number : Option ℕ) → (set_up_receiver u rollover number).context.session ≡ first_session u
unfolding set_up_receiver closed_receiver
receiver-first u rollover number = go (listed u) refl
  where
    go : (t : Bool) → listed u ≡ t → (set_up_receiver u rollover number).context.session ≡ first_session u
    go true g = rw g
    go false g = rw g

pub sender-session : (u : SetUp) (cs : List Call) → (sender_after u cs).session ≡ first_session u
sender-session u cs = run-session (set_up_sender u).context cs ∙ sender-first u

pub receiver-session : (u : SetUp) (rollover : ℕ) (number : Option ℕ) (cs : List Call) →
    (receiver_after u rollover number cs).session ≡ first_session u
receiver-session u rollover number cs =
    (run-kept (set_up_receiver u rollover number).context cs).session ∙ receiver-first u rollover number

-- ---- a closed context is refused by row 1
pub record Ready (u : SetUp) (s : Session) : Type 0 where
  pub listed-is : listed u ≡ true
  pub session-is : s ≡ session_of u

pub ready : (u : SetUp) (s : Session) → s ≡ first_session u → settings_listed s.settings ≡ true → Ready u s
ready u s e g = go (listed u) refl
  where
    go : (t : Bool) → listed u ≡ t → Ready u s
    go true h = record { listed-is = h; session-is = e ∙ rw h }
    go false h = let c : s ≡ closed_session = e ∙ rw h in absurd (true≢false (sym g ∙ ap (λ (x : Session). settings_listed x.settings) c))

-- ---- the contexts of a set-up that is not refused
pub receiver-begun : (u : SetUp) (rollover : ℕ) (number : Option ℕ) → listed u ≡ true →
    (set_up_receiver u rollover number).context ≡ start_receiver u rollover number
unfolding set_up_receiver
receiver-begun u rollover number g = rw g
