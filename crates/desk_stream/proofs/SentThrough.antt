-- A sender's run through the desk: its media packets, framed and delivered in order, come out as what was sent. Assumes nothing.
use Rattle.std.specs.Prelude.{Option, None, Some}
use Prim.Native.Nat.{ℕ, ◌≤◌}
use mathlib.Core.Bool.{Bool, true, false}
use mathlib.Core.List.{List, [], ◌∷◌, ◌++◌}
use mathlib.Core.Path.{◌≡◌, refl, sym, ap, subst, ◌∙◌}
use native.Mathlib.Omega.{arith}
use lib.ListN.{length}
use Rattle.octets.specs.BigEndian.{Bytes}
use Rattle.octets.proofs.BufferLaws.{take-over}
use Rattle.replay.specs.Accepted.{mem, raise, highest_of, AtMost}
use Rattle.replay.proofs.AcceptedLaws.{highest-covers}
use Rattle.session.specs.SetUps.{SetUp}
use Rattle.srtp.specs.Contexts.{set_up_sender, set_up_receiver}
use Rattle.srtp.specs.Outcomes.{Outcome, Answer, refused, done, answer_of, next_of, shown}
use Rattle.srtp.specs.declared.Receiver.{Receiver}
use Rattle.srtp.specs.declared.Sender.{Sender}
use Rattle.demands.specs.Runs.{Kind, media, control, Call, sending, receiving, after, BytesIn, accepted_by, accepted, sent}
use Rattle.demands.specs.Words.{comes_out, Finishes, Made, Reaches}
use Rattle.demands.proofs.SentIndices.{IsStep, EachStep, sent-steps}
use Rattle.demands.proofs.Demand3.{receiver-demand3}
use Rattle.evening.proofs.EventLaws.{accepted-append}
use Rattle.desk.specs.Framing.{framed, frames}
use Rattle.desk.specs.Listening.{set_up_under, written, served, start, output}
use Rattle.desk_stream.specs.Streams.{room, as_media, as_media_all, frames_out, if_media, protected_in, plain_in, protected_by, plain_by}
use Rattle.desk_stream.proofs.OneStream.{room-length, key-served, own-served}
use Rattle.desk_stream.proofs.StreamDemands.{fresh-is}
use Rattle.desk_stream.proofs.RunLaws.{after_last}
use Rattle.desk_stream.proofs.SentLaws.{sound-own, sound-read, Reached, reached-next, sent-made, sent-sound}

-- ---- an index that is a step ahead of those accepted is new, and within reach
step-new : (is : List ℕ) (i : ℕ) → IsStep (highest_of None is) i → mem i is ≡ false
step-new is i s = go (mem i is) refl
  where
    above : (h : Option ℕ) → IsStep h i → AtMost i h → ⊥
    above None s a = a
    above (Some h) s a = omega (arith, s.0)

    go : (b : Bool) → mem i is ≡ b → b ≡ false
    go true m = absurd (above (highest_of None is) s (highest-covers None is i m))
    go false m = refl

step-reaches : (h : Option ℕ) (i : ℕ) → IsStep h i → Reaches false 0 h i
step-reaches None i s = omega arith
step-reaches (Some h) i s = (omega (arith, s.0), omega (arith, s.1))

highest-last : (h : Option ℕ) (is : List ℕ) (i : ℕ) → highest_of h (is ++ (i ∷ [])) ≡ raise (highest_of h is) i
highest-last h [] i = refl
highest-last h (j ∷ is) i = highest-last (raise h j) is i

-- ---- what finishes p at i
pub finished_as : (o : Outcome Receiver) (d p : List ℕ) (i : ℕ) → Finishes o d p i → (r : Receiver) × (o ≡ done p i r)
finished_as (refused n) d p i f = cc (f.answer)
finished_as (done q j r) d p i f =
    let x : j ≡ i = ap (λ (a : Answer). (shown a).index) f.answer in
    let y : q ≡ p = sym (take-over q d) ∙ f.out_is in
    (r, rw (x, y))

module _ (key : List ℕ) (ssrc : ℕ) where
  abbrev u : SetUp
  u = set_up_under key ssrc

  abbrev r₀ : Receiver
  r₀ = (set_up_receiver u 0 None).context

  -- the receiver after some calls, and the indices that they accepted
  abbrev reader : List Call → Receiver
  reader got = after receiving r₀ got

  abbrev indices : List Call → List ℕ
  indices got = accepted media r₀ got

  -- what is made, and a step ahead, is opened as what was sent
  opens : (got : List Call) (p : List ℕ) (i : ℕ) (b : List ℕ) → Made media u p i b → IsStep (highest_of None (indices got)) i →
      (r : Receiver) × (receiving (reader got) (as_media b) ≡ done p i r)
  opens got p i b m s =
      let n : length p ≤ length room = omega (arith, m.plain.not_long, room-length) in
      finished_as (receiving (reader got) (as_media b)) room p i
      ((receiver-demand3 u 0 None (omega arith) tt (got ++ (as_media b ∷ []))).accepts got (as_media b) [] refl p i m
      (step-new (indices got) i s) (step-reaches (highest_of None (indices got)) i s) n)

  one-accepted : (got : List Call) (b p : List ℕ) (i : ℕ) (r : Receiver) → receiving (reader got) (as_media b) ≡ done p i r →
      highest_of None (indices (got ++ (as_media b ∷ []))) ≡ raise (highest_of None (indices got)) i
  one-accepted got b p i r e =
      ap (highest_of None) (accepted-append media r₀ got (as_media b ∷ [])
      ∙ ap (λ (o : Outcome Receiver). indices got ++ (accepted_by media media (answer_of o) ++ [])) e)
      ∙ highest-last None (indices got) i

  -- ---- the calls of a sender from s on, where the receiver has got the packets before them
  abbrev Through : Sender → List Call → Type 0
  Through s cs = (got : List Call) → EachStep (highest_of None (indices got)) (sent media s cs) →
      frames_out (reader got) (as_media_all (protected_in s cs)) ≡ frames (plain_in s cs)

  one-through : (s : Sender) → Reached key ssrc s → (c : Call) → Bytes c.packet → (cs got : List Call) →
      (k : Kind) → c.kind ≡ k → (o : Outcome Sender) → sending s c ≡ o → Through (next_of o s) cs →
      EachStep (highest_of None (indices got)) (accepted_by media k (answer_of o) ++ sent media (next_of o s) cs) →
      frames_out (reader got) (as_media_all (if_media k o (comes_out o c.buffer) ++ protected_in (next_of o s) cs))
      ≡ frames (if_media k o c.packet ++ plain_in (next_of o s) cs)
  one-through s g c y cs got media k (refused n) e rest f = rest got f
  one-through s g c y cs got media k (done x i s') e rest f =
      let p : List ℕ = c.packet in
      let b : List ℕ = comes_out (done x i s') c.buffer in
      let o = opens got p i b (sent-made key ssrc s g c y k x i s' e) f.0 in
      let more : List Call = got ++ (as_media b ∷ []) in
      let cs' : List Call = as_media_all (protected_in s' cs) in
      let f' : EachStep (highest_of None (indices more)) (sent media s' cs) =
      subst (λ (h : Option ℕ). EachStep h (sent media s' cs)) (sym (one-accepted got b p i o.0 o.1)) f.1 in
      ap (λ (x : Outcome Receiver). written x ++ frames_out (next_of (receiving (reader got) (as_media b)) (reader got)) cs') o.1
      ∙ ap (λ (r : Receiver). framed p ++ frames_out r cs') (sym (after_last receiving r₀ got (as_media b)))
      ∙ ap (λ (t : List ℕ). framed p ++ t) (rest more f')
  one-through s g c y cs got control k (refused n) e rest f = rest got f
  one-through s g c y cs got control k (done x i s') e rest f = rest got f

  through : (s : Sender) → Reached key ssrc s → (cs : List Call) → BytesIn cs → Through s cs
  through s g [] y got f = refl
  through s g (c ∷ cs) y got f =
      one-through s g c y.0 cs got c.kind refl (sending s c) refl
      (through (next_of (sending s c) s) (reached-next key ssrc s c g) cs y.1) f

-- THE THEOREM: whatever run a sender had under a key file and an SSRC, the desk under that key file, given the media packets that came out of
-- it, framed and in order, writes the packets that were sent, framed and in order.
pub sent-through : (key : List ℕ) (ssrc : ℕ) (run : List Call) → length key ≡ 30 → BytesIn run →
    output key (frames (protected_by (set_up_under key ssrc) run)) ≡ frames (plain_by (set_up_under key ssrc) run)
sent-through key ssrc run k y =
    let s₀ : Sender = (set_up_sender (set_up_under key ssrc)).context in
    let ps : List (List ℕ) = protected_in s₀ run in
    let sound = sent-sound key ssrc s₀ ([], refl) run y in
    key-served key (frames ps) k
    ∙ ap (served (start key)) (sound-read ssrc ps sound)
    ∙ own-served key ssrc ps (sound-own ssrc ps sound)
    ∙ ap (λ (r : Receiver). frames_out r (as_media_all ps)) (fresh-is key ssrc)
    ∙ through key ssrc s₀ ([], refl) run y [] (sent-steps (set_up_under key ssrc) run y)
