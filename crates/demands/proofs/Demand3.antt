-- Demand 3, of every two runs of senders and of every run of a receiver. Assumes nothing.
use Prim.Native.Nat.{ℕ, ◌+◌, ◌%◌, ◌^◌, ◌≤◌, ◌<◌}
use native.Mathlib.Omega.{arith}
use mathlib.Core.Path.{◌≡◌, refl, sym, ap, subst, ◌∙◌}
use mathlib.Core.Bool.{Bool, true, false, cond, or-false}
use mathlib.Core.List.{List}
use lib.IntN.{pos}
use lib.ListN.{length}
use borrow.Author.Tests.{le-leb, lt-leb}
use Rattle.std.specs.Prelude.{Option, None, Some, Err}
use Rattle.rtp.specs.Protected.{rtcp_portion}
use Rattle.transforms.specs.Tag.{rollover_counter}
use Rattle.transforms.specs.Rcc.{carries_counter, carried_counter}
use Rattle.transforms.specs.declared.Integrity.{Integrity}
use Rattle.transforms.proofs.RccLaws.{carried-back}
use Rattle.replay.specs.Index.{max_media_index, index_of, estimate, Near}
use Rattle.replay.specs.Accepted.{mem, start, too_old, accept_all, highest_of}
use Rattle.replay.specs.Window.{window_length, window_verdict, window_start, window_mark_all}
use Rattle.replay.specs.declared.window.Window.{Window}
use Rattle.replay.proofs.IndexLaws.{estimate-near}
use Rattle.replay.proofs.AcceptedLaws.{after-highest, after-mem, young-verdict}
use Rattle.replay.proofs.WindowLaws.{start-means, after-means, window-is-set}
use Rattle.session.specs.declared.Session.{Session}
use Rattle.srtp.specs.declared.Receiver.{Receiver}
use Rattle.srtp.specs.declared.Refusal.TheVariants.{Repeat}
use Rattle.srtp.specs.Outcomes.{refused, done, answer_of}
use Rattle.session.specs.Packets.{ssrc_of, cipher_of, integrity_of, tag_length, encrypts, ciphered_media, media_tag, ciphered_control}
use Rattle.session.specs.SetUps.{SetUp, listed, session_of, settings_listed}
use Rattle.srtp.specs.Contexts.{highest_at_most, start_highest, start_receiver, set_up_receiver, receiver_listed}
use Rattle.srtp.specs.Calls.{media_portion, media_place, control_received}
use Rattle.demands.specs.Runs.{Kind, media, control, Call, receive, receiving, after, accepted, receiver_after, sender_outcome, receiver_outcome}
use Rattle.demands.specs.Words.{HasIndex, Made, has_whole_index, Reaches, WithinReach, NumberFits, accepted_as, highest_at_start, is_packet, protected}
use Rattle.demands.specs.Demands.{ReceiverDemand3, SenderDemand3}
use Rattle.demands.proofs.SettingLaws.{session-listed}
use Rattle.demands.proofs.MediaLaws.{media-twice, srtp-portion}
use Rattle.demands.proofs.ControlLaws.{control-twice, srtcp-portion, portion-text}
use Rattle.demands.proofs.PacketKinds.{sent_as, max_index, window_of, marked}
use Rattle.demands.proofs.FinishedLaws.{finished, finishes}
use Rattle.demands.proofs.WindowTurns.{turns-once}
use Rattle.demands.proofs.ReceiverRuns.{run-kept, run-window, run-turns}
use Rattle.demands.proofs.Opening.{Finds, young_verdict, opens}
use Rattle.demands.proofs.SetUpLaws.{protected-is, receiver-begun}
use Rattle.demands.proofs.Demand2.{tested, under, sender-demand2}

-- ---- senders: a packet is found again in what is made of it, by enciphering once more
abbrev recovered : Kind → Session → (protected : List ℕ) → (index : ℕ) → List ℕ
recovered media s b i = ciphered_media s (media_portion s b) i
recovered control s b i = ciphered_control s (encrypts (cipher_of s)) (rtcp_portion (control_received s b)) i

recovers : (k : Kind) (s : Session) (p : List ℕ) (i : ℕ) → settings_listed s.settings ≡ true → is_packet k p ≡ true →
    recovered k s (sent_as k s p i) i ≡ p
recovers media s p i g r = rw (srtp-portion s p i g) (media-twice s i p r)
recovers control s p i g r =
    let e = encrypts (cipher_of s) in
    rw (srtcp-portion s e p i, portion-text s e p i) (control-twice s i e p r)

same-packet : (k : Kind) (s : Session) (p q : List ℕ) (i : ℕ) → settings_listed s.settings ≡ true →
    is_packet k p ≡ true → is_packet k q ≡ true → sent_as k s p i ≡ sent_as k s q i → p ≡ q
same-packet k s p q i g a b e = sym (recovers k s p i g a) ∙ ap (λ (x : List ℕ). recovered k s x i) e ∙ recovers k s q i g b

pub sender-demand3 : (u : SetUp) → SenderDemand3 u
sender-demand3 u =
    record {
      differ = λ earlier earlier' c c' i k f f' apart e.
          let s = session_of u in
          let d = finished (sender_outcome u earlier c) i f in
          let d' = finished (sender_outcome u earlier' c') i f' in
          let shape : is_packet c.kind c.packet ≡ true = (tested u earlier c d.0 i d.1 d.2).shape in
          let shape' : is_packet c.kind c'.packet ≡ true =
          subst (λ (x : Kind). is_packet x c'.packet ≡ true) (sym k) (tested u earlier' c' d'.0 i d'.1 d'.2).shape in
          let g = session-listed u (under u earlier c d.0 i d.1 d.2).listed-is in
          let same : protected c.kind u c.packet i ≡ protected c'.kind u c'.packet i =
          sym ((sender-demand2 u).finishes earlier c i f).out_is ∙ e ∙ ((sender-demand2 u).finishes earlier' c' i f').out_is in
          let same' : sent_as c.kind s c.packet i ≡ sent_as c.kind s c'.packet i =
          protected-is c.kind u c.packet i ∙ same ∙ sym (protected-is c'.kind u c'.packet i)
          ∙ ap (λ (x : Kind). sent_as x s c'.packet i) (sym k) in
          apart (same-packet c.kind s c.packet c'.packet i g shape shape' same');
    }

-- ---- receiver
-- what is within reach is not too old
not-old : (whole : Bool) (rollover : ℕ) (h : Option ℕ) (i : ℕ) → Reaches whole rollover h i → too_old window_length h i ≡ false
not-old true rollover None i w = refl
not-old true rollover (Some h) i w = lt-leb (i + window_length) h (omega arith)
not-old false rollover None i w = refl
not-old false rollover (Some h) i w = lt-leb (i + window_length) h (omega (arith, w.0))

-- and is found: by its number where that names it; else by the rollover counter that the tag of index i carries
near : (rollover : ℕ) (h : Option ℕ) (i : ℕ) → Reaches false rollover h i → Near window_length rollover h i
near rollover None i w = w
near rollover (Some h) i w = (omega (arith, w.0), omega (arith, w.1))

found : (whole : Bool) (rollover : ℕ) (h : Option ℕ) (i : ℕ) (t : List ℕ) → (whole ≡ true → carried_counter t ≡ rollover_counter i) →
    Reaches whole rollover h i → cond whole (pos (index_of (carried_counter t) (i % 65536))) (estimate rollover (i % 65536) h) ≡ pos i
found true rollover h i t c w = ap pos (omega (arith, c refl))
found false rollover h i t c w = estimate-near window_length rollover h i (omega arith) (near rollover h i w)

finds : (k : Kind) (u : SetUp) (r : Receiver) (p : List ℕ) (i : ℕ) → r.session ≡ session_of u → HasIndex k p i →
    Reaches (has_whole_index k u i) r.rollover (window_of k r).highest i → Finds k r p i
unfolding session_of media_tag
finds media u r p i e h w =
    let s : Session = r.session in
    let t : List ℕ = media_tag s (ciphered_media s p i) i in
    let same : integrity_of s ≡ u.profile.integrity = ap integrity_of e in
    ap (λ (q : ℕ). media_place r q t) h.0
    ∙ ap (λ (x : Integrity). cond (carries_counter x (i % 65536)) (pos (index_of (carried_counter t) (i % 65536))) (estimate r.rollover (i % 65536) r.media.highest)) same
    ∙ found (has_whole_index media u i) r.rollover r.media.highest i t
    (λ c. carried-back (integrity_of s) (tag_length s) s.media (ciphered_media s p i) i h.1
    (ap (λ (x : Integrity). carries_counter x (i % 65536)) same ∙ c)) w
finds control u r p i e h w = tt

below_of : (k : Kind) (p : List ℕ) (i : ℕ) → HasIndex k p i → i ≤ max_index k
below_of media p i h = h.1
below_of control p i h = h

starts-below : (rollover : ℕ) (number : Option ℕ) → rollover < 2 ^ 32 → NumberFits number →
    highest_at_most max_media_index (start_highest rollover number) ≡ true
starts-below rollover None w f = refl
starts-below rollover (Some q) w f = le-leb (index_of rollover q) max_media_index (omega arith)

-- a receiver r after earlier calls, from a set-up that is not refused
module _ (u : SetUp) (rollover : ℕ) (number : Option ℕ) (w : rollover < 2 ^ 32) (f : NumberFits number) (g : listed u ≡ true)
    (earlier : List Call) where
  abbrev r₀ : Receiver
  r₀ = start_receiver u rollover number

  abbrev r : Receiver
  r = after receiving (start_receiver u rollover number) earlier

  abbrev indices : Kind → List ℕ
  indices k = accepted k (start_receiver u rollover number) earlier

  abbrev h₀ : Kind → Option ℕ
  h₀ k = highest_at_start u rollover number k

  start-listed : receiver_listed r₀ ≡ true
  unfolding receiver_listed
  start-listed = rw (session-listed u g, starts-below rollover number w f)

  window-start : (k : Kind) → window_of k r₀ ≡ window_start (h₀ k)
  window-start media = refl
  window-start control = refl

  window-is : (k : Kind) → window_of k r ≡ window_mark_all window_length (window_start (h₀ k)) (indices k)
  window-is k = run-window k r₀ earlier ∙ ap (λ (v : Window). window_mark_all window_length v (indices k)) (window-start k)

  highest-is : (k : Kind) → (window_of k r).highest ≡ highest_of (h₀ k) (indices k)
  highest-is k =
      ap (λ (v : Window). v.highest) (window-is k)
      ∙ (after-means window_length (window_start (h₀ k)) (start (h₀ k)) (indices k) (start-means window_length (h₀ k))).highest
      ∙ after-highest (start (h₀ k)) (indices k)

  verdict-is : (k : Kind) (i : ℕ) → too_old window_length (highest_of (h₀ k) (indices k)) i ≡ false →
      window_verdict window_length (window_of k r) i ≡ young_verdict (mem i (indices k))
  verdict-is k i o =
      let a = start (h₀ k) in
      ap (λ (v : Window). window_verdict window_length v i) (window-is k) ∙ window-is-set window_length (h₀ k) (indices k) i
      ∙ young-verdict window_length (accept_all a (indices k)) i (rw (after-highest a (indices k)) o)
      ∙ ap young_verdict (after-mem a (indices k) i ∙ or-false (mem i (indices k)))

  session-is : r.session ≡ session_of u
  session-is = (run-kept r₀ earlier).session

  -- what is made and within reach, where there is room: a repeat is refused as REPEAT, what is new is accepted
  receives-made : (k : Kind) (p : List ℕ) (i : ℕ) (b : List ℕ) (room : ℕ) → Made k u p i b →
      Reaches (has_whole_index k u i) rollover (highest_of (h₀ k) (indices k)) i → length p ≤ room →
      receive k r b room ≡ cond (mem i (indices k)) (refused Repeat) (done p i (marked k r i))
  unfolding session_of
  receives-made k p i b room made reach fits =
      let t = made.plain in
      let reach' : Reaches (has_whole_index k u i) r.rollover (window_of k r).highest i = rw ((run-kept r₀ earlier).rollover, highest-is k) reach in
      let eb : b ≡ sent_as k r.session p i =
      made.bytes ∙ sym (protected-is k u p i) ∙ ap (λ (s : Session). sent_as k s p i) (sym session-is) in
      ap (λ (x : List ℕ). receive k r x room) eb
      ∙ opens k r p i room (mem i (indices k))
      (record {
        row1 = (run-kept r₀ earlier).row1 start-listed;
        not_long = t.not_long;
        shape = t.shape;
        stream = t.stream ∙ ap ssrc_of (sym session-is);
        fits = fits;
        below = below_of k p i t.has_index;
      })
      (finds k u r p i session-is t.has_index reach')
      (verdict-is k i (not-old (has_whole_index k u i) rollover _ i reach))

module _ (u : SetUp) (rollover : ℕ) (number : Option ℕ) where
  -- the same of a run from set-up on
  on-made : rollover < 2 ^ 32 → NumberFits number → (earlier : List Call) (c : Call) (p : List ℕ) (i : ℕ) (seen : Bool) → Made c.kind u p i c.packet →
      mem i (accepted_as u rollover number c.kind earlier) ≡ seen → WithinReach u rollover number c.kind earlier i →
      length p ≤ length c.buffer →
      receiver_outcome u rollover number earlier c
      ≡ cond seen (refused Repeat) (done p i (marked c.kind (receiver_after u rollover number earlier) i))
  on-made w f earlier c p i seen made m reach fits =
      let o = receiver-begun u rollover number made.plain.ready in
      rw (← m, o)
      (receives-made u rollover number w f made.plain.ready earlier c.kind p i c.packet (length c.buffer) made (rw o at reach) fits)

  pub receiver-demand3 : rollover < 2 ^ 32 → NumberFits number → (calls : List Call) → ReceiverDemand3 u rollover number calls
  receiver-demand3 w f calls =
      record {
        once = λ k.
            turns-once window_length _ (accepted_as u rollover number k calls) (run-turns k (set_up_receiver u rollover number).context calls);
        accepts = λ earlier c later e p i made new reach fits.
            finishes _ c.buffer p i _ (on-made w f earlier c p i false made new reach fits);
      }

  -- and what was accepted already is refused as REPEAT, if it is within reach and the buffer has room
  pub repeat-refused : rollover < 2 ^ 32 → NumberFits number → (earlier : List Call) (c : Call) (p : List ℕ) (i : ℕ) → Made c.kind u p i c.packet →
      mem i (accepted_as u rollover number c.kind earlier) ≡ true → WithinReach u rollover number c.kind earlier i →
      length p ≤ length c.buffer → answer_of (receiver_outcome u rollover number earlier c) ≡ Err Repeat
  repeat-refused w f earlier c p i made old reach fits = ap answer_of (on-made w f earlier c p i true made old reach fits)
