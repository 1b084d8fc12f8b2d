-- The media indices of a sender's run: they rise, so that no index is sent twice, and each by less than 32,768. Assumes nothing.
use Prim.Native.Nat.{ℕ, ◌+◌, ◌<◌}
use native.Mathlib.Omega.{arith}
use mathlib.Core.Path.{◌≡◌, refl, sym, ap, subst}
use mathlib.Core.Bool.{Bool, true, false}
use mathlib.Core.List.{List, [], ◌∷◌, ◌++◌}
use lib.ListN.{length}
use Rattle.std.specs.Prelude.{Option, None, Some}
use Rattle.octets.specs.BigEndian.{Bytes}
use Rattle.rtp.specs.Rtp.{sequence_number}
use Rattle.rtp.proofs.RtpLaws.{number_lt}
use Rattle.replay.specs.Accepted.{raise, highest_of, AtMost}
use Rattle.replay.specs.declared.index.MediaSender.{MediaSender}
use Rattle.session.specs.SetUps.{SetUp, listed}
use Rattle.srtp.specs.declared.Sender.{Sender}
use Rattle.srtp.specs.Contexts.{closed_sender, set_up_sender}
use Rattle.srtp.specs.Outcomes.{Outcome, refused, done, answer_of, next_of}
use Rattle.demands.specs.Runs.{Kind, media, control, Call, send, sending, after, sender_after, sender_outcome, BytesIn, accepted_by, sent, sent_by}
use Rattle.demands.specs.Words.{FinishedAt}
use Rattle.demands.proofs.FinishedLaws.{finished}
use Rattle.demands.proofs.Sending.{Past, Turns, sends}

-- ---- two packets of a run
then-past : (l : Option ℕ) (q i j : ℕ) → AtMost i l → Past l q j → i < j
then-past None q i j a p = absurd a
then-past (Some l) q i j a p = omega (arith, p.0)

next-least : (k : Kind) (s : Sender) (p : List ℕ) (room i : ℕ) (o : Outcome Sender) → send k s p room ≡ o → AtMost i s.media.last →
    AtMost i (next_of o s).media.last
next-least k s p room i (refused n) e a = a
next-least media s p room i (done b j s') e a =
    let t = (sends media s p room b j s' e).turns in
    let l : i < j = then-past s.media.last (sequence_number p) i j a t.0 in
    rw t.1 (omega (arith, l))
next-least control s p room i (done b j s') e a = rw (sends control s p room b j s' e).turns a

run-least : (s : Sender) (cs : List Call) (i : ℕ) → AtMost i s.media.last → AtMost i (after sending s cs).media.last
run-least s [] i a = a
run-least s (c ∷ cs) i a =
    run-least (next_of (sending s c) s) cs i (next-least c.kind s c.packet (length c.buffer) i (sending s c) refl a)

after-append : (s : Sender) (cs ds : List Call) → after sending s (cs ++ ds) ≡ after sending (after sending s cs) ds
after-append s [] ds = refl
after-append s (c ∷ cs) ds = after-append (next_of (sending s c) s) cs ds

turned : (s : Sender) (c : Call) (i : ℕ) → c.kind ≡ media → FinishedAt (sending s c) i → Turns media s c.packet i (next_of (sending s c) s)
turned s c i k f =
    let d = finished (sending s c) i f in
    subst (λ (s' : Sender). Turns media s c.packet i s') (sym (ap (λ (o : Outcome Sender). next_of o s) d.2))
    (subst (λ (x : Kind). Turns x s c.packet i d.1) k (sends c.kind s c.packet (length c.buffer) d.0 i d.1 d.2).turns)

-- of two media packets of a run the later has the higher index
pub media-rises : (u : SetUp) (earlier : List Call) (c : Call) (between : List Call) (c' : Call) (i j : ℕ) → c.kind ≡ media → c'.kind ≡ media →
    FinishedAt (sender_outcome u earlier c) i → FinishedAt (sender_outcome u (earlier ++ (c ∷ between)) c') j → i < j
media-rises u earlier c between c' i j k k' f f' =
    let s : Sender = sender_after u earlier in
    let s₁ : Sender = next_of (sending s c) s in
    let s₂ : Sender = sender_after u (earlier ++ (c ∷ between)) in
    let t = turned s c i k f in
    let a : AtMost i s₁.media.last = subst (λ (m : MediaSender). AtMost i m.last) (sym t.1) (omega arith) in
    let b : AtMost i s₂.media.last =
    subst (λ (x : Sender). AtMost i x.media.last) (sym (after-append (set_up_sender u).context earlier (c ∷ between)))
    (run-least s₁ between i a) in
    then-past s₂.media.last (sequence_number c'.packet) i j b (turned s₂ c' j k' f').0

-- ---- how far each media packet of a run is ahead of those before it
-- the first has a number for its index; a later one is ahead of the highest before it by less than 32,768
abbrev pub IsStep : Option ℕ → (index : ℕ) → Type 0
IsStep None i = i < 65536
IsStep (Some h) i = (h < i) × (i < h + 32768)

abbrev pub EachStep : Option ℕ → List ℕ → Type 0
EachStep h [] = Unit {0}
EachStep h (i ∷ is) = IsStep h i × EachStep (raise h i) is

past-step : (l : Option ℕ) (q i : ℕ) → q < 65536 → Past l q i → IsStep l i
past-step None q i w p = omega arith
past-step (Some l) q i w p = p

past-raises : (l : Option ℕ) (q i : ℕ) → Past l q i → raise l i ≡ Some i
past-raises None q i p = refl
past-raises (Some l) q i p = ap Some (omega (arith, p.0))

call-steps : (k : Kind) (s : Sender) (p : List ℕ) (room : ℕ) (o : Outcome Sender) → send k s p room ≡ o → Bytes p → (js : List ℕ) →
    EachStep (next_of o s).media.last js → EachStep s.media.last (accepted_by media k (answer_of o) ++ js)
call-steps media s p room (refused n) e b js f = f
call-steps control s p room (refused n) e b js f = f
call-steps media s p room (done x i s') e b js f =
    let t = (sends media s p room x i s' e).turns in
    let l = s.media.last in
    let q = sequence_number p in
    let f' : EachStep (Some i) js = subst (λ (m : MediaSender). EachStep m.last js) t.1 f in
    (past-step l q i (number_lt p b) t.0, subst (λ (h : Option ℕ). EachStep h js) (sym (past-raises l q i t.0)) f')
call-steps control s p room (done x i s') e b js f =
    subst (λ (m : MediaSender). EachStep m.last js) (sends control s p room x i s' e).turns f

run-steps : (s : Sender) (cs : List Call) → BytesIn cs → EachStep s.media.last (sent media s cs)
run-steps s [] b = tt
run-steps s (c ∷ cs) b =
    call-steps c.kind s c.packet (length c.buffer) (sending s c) refl b.0 _ (run-steps (next_of (sending s c) s) cs b.1)

pub step-at : (h : Option ℕ) (before : List ℕ) (i : ℕ) (later : List ℕ) → EachStep h (before ++ (i ∷ later)) → IsStep (highest_of h before) i
step-at h [] i later f = f.0
step-at h (j ∷ before) i later f = step-at (raise h j) before i later f.1

nothing-sent : (u : SetUp) → (set_up_sender u).context.media.last ≡ None
unfolding set_up_sender closed_sender
nothing-sent u = go (listed u) refl
  where
    go : (t : Bool) → listed u ≡ t → (set_up_sender u).context.media.last ≡ None
    go true g = rw g
    go false g = rw g

pub sent-steps : (u : SetUp) (run : List Call) → BytesIn run → EachStep None (sent_by u media run)
sent-steps u run b =
    subst (λ (l : Option ℕ). EachStep l (sent_by u media run)) (nothing-sent u) (run-steps (set_up_sender u).context run b)
