-- The whole evening at the desk: of whatever the network delivers, with strange packets among it, the desk writes what was sent, each packet
-- at its first delivery. Assumes nothing.
use Rattle.std.specs.Prelude.{None}
use Prim.Native.Nat.{ℕ, ◌≤◌}
use mathlib.Core.Bool.{Bool, true, false, cond, ◌||◌, or_assoc, or_comm}
use mathlib.Core.List.{List, [], ◌∷◌, ◌++◌, append_assoc, append-nil, nil≢cons, head-eq_of_cons-eq, tail-eq_of_cons-eq}
use mathlib.Core.Path.{◌≡◌, refl, sym, ap, subst, ◌∙◌}
use native.Mathlib.Omega.{arith}
use borrow.Author.Tests.{le-leb}
use lib.Dec.{eqb, leb}
use lib.ListN.{length}
use Rattle.replay.specs.Accepted.{mem}
use Rattle.rtp.specs.Rtp.{rtp_ssrc}
use Rattle.session.specs.SetUps.{SetUp}
use Rattle.srtp.specs.Contexts.{set_up_receiver}
use Rattle.srtp.specs.Outcomes.{Outcome, refused, done, next_of}
use Rattle.srtp.specs.declared.Receiver.{Receiver}
use Rattle.srtp.specs.declared.Refusal.{Refusal}
use Rattle.srtp.specs.declared.Refusal.TheVariants.{Repeat}
use Rattle.demands.specs.Runs.{Kind, media, Call, receiving, BytesIn}
use Rattle.demands.specs.Runs.{after as context_after}
use Rattle.demands.specs.Words.{Made}
use Rattle.demands.proofs.Demand2.{sender-demand2}
use Rattle.evening.specs.Evening.{Genuine, packet_of, bytes_of, Event, genuine, strange, call_of, calls_of, delivered, Comes, outcome_of, HasRoom, IsRefused, Shown}
use Rattle.evening.proofs.EventLaws.{bytes-in, calls-append, delivered-append}
use Rattle.evening.proofs.WholeEvening.{plain-evening}
use Rattle.desk.specs.Framing.{framed, packets, frames, Framed, not_too_long}
use Rattle.desk.specs.Listening.{set_up_under, fresh, written, served, start, output}
use Rattle.desk.proofs.Framings.{frames-read}
use Rattle.desk_stream.specs.Streams.{room, as_media, as_media_all, frames_out, EachRefused}
use Rattle.desk_stream.specs.DeskEvening.{Arrival, delivery, stray, arriving, strays, strays_first, event_of, events_of, opened_behind, opened, SupposedAtDesk}
use Rattle.desk_stream.proofs.OneStream.{room-length, by_first, fixed-served, key-served}
use Rattle.desk_stream.proofs.StreamDemands.{fresh-is}
use Rattle.desk_stream.proofs.RunLaws.{after_last}
use Rattle.desk_stream.proofs.SentLaws.{made-ssrc, made-length}
use Rattle.desk_stream.proofs.SentThrough.{finished_as}

-- ---- the indices seen are those delivered
abbrev Same : (seen is : List ℕ) → Type 0
Same seen is = (i : ℕ) → mem i seen ≡ mem i is

mem-last : (is : List ℕ) (j i : ℕ) → mem i (is ++ (j ∷ [])) ≡ (eqb i j || mem i is)
mem-last [] j i = refl
mem-last (k ∷ is) j i =
    ap (λ (b : Bool). eqb i k || b) (mem-last is j i) ∙ sym (or_assoc (eqb i k) (eqb i j) (mem i is))
    ∙ ap (λ (b : Bool). b || mem i is) (or_comm (eqb i k) (eqb i j)) ∙ or_assoc (eqb i j) (eqb i k) (mem i is)

same-last : (seen is : List ℕ) (j : ℕ) → Same seen is → Same (j ∷ seen) (is ++ (j ∷ []))
same-last seen is j s i = ap (λ (b : Bool). eqb i j || b) (s i) ∙ sym (mem-last is j i)

-- ---- a packet that is refused
refused_as : (o : Outcome Receiver) → IsRefused o → (n : Refusal) × (o ≡ refused n)
refused_as (refused n) h = (n, refl)
refused_as (done p i r) (n, e) = cc

-- a receiver's calls are as without it, whether it is too long for a frame or not
passed : (r : Receiver) (b : List ℕ) (ps : List (List ℕ)) → IsRefused (receiving r (as_media b)) → (t : Bool) →
    frames_out r (as_media_all (cond t (b ∷ []) [] ++ ps)) ≡ frames_out r (as_media_all ps)
passed r b ps h true =
    ap (λ (o : Outcome Receiver). written o ++ frames_out (next_of o r) (as_media_all ps)) (refused_as (receiving r (as_media b)) h).1
passed r b ps h false = refl

-- so is the desk until it has let one in
passed_first : (key b : List ℕ) (ps : List (List ℕ)) → IsRefused (receiving (fresh key (rtp_ssrc b)) (as_media b)) → (t : Bool) →
    served (start key) (cond t (b ∷ []) [] ++ ps) ≡ served (start key) ps
passed_first key b ps h true =
    let o = refused_as (receiving (fresh key (rtp_ssrc b)) (as_media b)) h in
    by_first key b ps (refused o.0) o.1
passed_first key b ps h false = refl

-- ---- one that is not too long for a frame
short : (b : List ℕ) (ps : List (List ℕ)) → length b ≤ 2058 → cond (leb (length b) 2058) (b ∷ []) [] ++ ps ≡ b ∷ ps
short b ps l = ap (λ (t : Bool). cond t (b ∷ []) [] ++ ps) (le-leb (length b) 2058 l)

module _ (key : List ℕ) (ssrc : ℕ) (run : List Call) (bytes : BytesIn run) where
  abbrev u : SetUp
  u = set_up_under key ssrc

  abbrev r₀ : Receiver
  r₀ = (set_up_receiver u 0 None).context

  -- ---- a genuine packet
  made : (g : Genuine u run) → Made media u (packet_of g) g.index (bytes_of g)
  made g =
      subst (λ (k : Kind). Made k u (packet_of g) g.index (bytes_of g)) g.is_media
      ((sender-demand2 u).makes g.earlier g.call g.index
      (bytes-in run g.earlier g.call g.later bytes g.in_run) g.sent)

  genuine-ssrc : (g : Genuine u run) → rtp_ssrc (bytes_of g) ≡ ssrc
  genuine-ssrc g = made-ssrc key ssrc (packet_of g) g.index (bytes_of g) (made g)

  genuine-short : (g : Genuine u run) → length (bytes_of g) ≤ 2058
  genuine-short g = made-length key ssrc (packet_of g) g.index (bytes_of g) (made g)

  -- two bytes hold the length of each packet
  all_fit : (xs : List (Arrival u run)) → Framed (strays xs) → Framed (arriving xs)
  all_fit [] f = tt
  all_fit (delivery g ∷ xs) f = (omega (arith, genuine-short g), all_fit xs f)
  all_fit (stray b ∷ xs) f = (f.0, all_fit xs f.1)

  -- and there is room for each
  in-room : (x : Arrival u run) → (call_of (event_of x)).buffer ≡ room
  in-room (delivery g) = refl
  in-room (stray b) = refl

  has_room : (xs : List (Arrival u run)) → HasRoom (events_of xs)
  has_room [] [] g d (later, e) = absurd (nil≢cons e)
  has_room [] (y ∷ before) g d (later, e) = absurd (nil≢cons e)
  has_room (x ∷ xs) [] g d (later, e) =
      let r : room ≡ d = sym (in-room x) ∙ ap (λ (y : Event u run). (call_of y).buffer) (head-eq_of_cons-eq e) in
      let n : length d ≡ 2048 = ap length (sym r) ∙ room-length in
      omega (arith, (made g).plain.not_long)
  has_room (x ∷ xs) (y ∷ before) g d (later, e) = has_room xs before g d (later, tail-eq_of_cons-eq e)

  -- ---- the receiver behind some events
  abbrev reader : List (Event u run) → Receiver
  reader before = context_after receiving r₀ (calls_of before)

  reader-next : (before : List (Event u run)) (x : Event u run) → reader (before ++ (x ∷ [])) ≡ next_of (outcome_of 0 before x) (reader before)
  reader-next before x =
      ap (context_after receiving r₀) (calls-append before (x ∷ [])) ∙ after_last receiving r₀ (calls_of before) (call_of x)

  reader-stays : (before : List (Event u run)) (x : Event u run) → IsRefused (outcome_of 0 before x) → reader (before ++ (x ∷ [])) ≡ reader before
  reader-stays before x h =
      reader-next before x ∙ ap (λ (o : Outcome Receiver). next_of o (reader before)) (refused_as (outcome_of 0 before x) h).1

  module _ (evening : List (Arrival u run)) (s : SupposedAtDesk key ssrc run evening) where
    shown : Shown u 0 run (events_of evening)
    shown =
        plain-evening u 0 run (events_of evening) (omega arith) bytes
        (record { keeps_up = s.keeps_up; room = has_room evening; strange_refused = s.stray_refused })

    -- the rest of the evening, behind some events
    abbrev Rest : List (Event u run) → List (Arrival u run) → Type 0
    Rest before xs = events_of evening ≡ before ++ events_of xs

    rest-next : (before : List (Event u run)) (x : Arrival u run) (xs : List (Arrival u run)) → Rest before (x ∷ xs) →
        Rest (before ++ (event_of x ∷ [])) xs
    rest-next before x xs e = e ∙ sym (append_assoc before (event_of x ∷ []) (events_of xs))

    accepts : (before : List (Event u run)) (g : Genuine u run) → Comes (events_of evening) before (genuine g room) →
        mem g.index (delivered before) ≡ false → (r : Receiver) × (outcome_of 0 before (genuine g room) ≡ done (packet_of g) g.index r)
    accepts before g c new =
        finished_as (outcome_of 0 before (genuine g room)) room (packet_of g) g.index (shown.first before g room c new)

    -- ---- what the receiver opens from a delivery on
    one-delivery : (before : List (Event u run)) (g : Genuine u run) → Comes (events_of evening) before (genuine g room) → (ps qs : List (List ℕ)) →
        frames_out (reader (before ++ (genuine g room ∷ []))) (as_media_all ps) ≡ frames qs → (t : Bool) → mem g.index (delivered before) ≡ t →
        frames_out (reader before) (as_media_all (bytes_of g ∷ ps)) ≡ frames (cond t [] (packet_of g ∷ []) ++ qs)
    one-delivery before g c ps qs rest true m =
        let h : IsRefused (outcome_of 0 before (genuine g room)) = (Repeat, shown.again before g room c m) in
        passed (reader before) (bytes_of g) ps h true
        ∙ ap (λ (r : Receiver). frames_out r (as_media_all ps)) (sym (reader-stays before (genuine g room) h)) ∙ rest
    one-delivery before g c ps qs rest false m =
        let x : Event u run = genuine g room in
        let next : Receiver = next_of (outcome_of 0 before x) (reader before) in
        ap (λ (o : Outcome Receiver). written o ++ frames_out next (as_media_all ps)) (accepts before g c m).1
        ∙ ap (λ (r : Receiver). framed (packet_of g) ++ frames_out r (as_media_all ps)) (sym (reader-next before x))
        ∙ ap (λ (t : List ℕ). framed (packet_of g) ++ t) rest

    opens : (before : List (Event u run)) (seen : List ℕ) (xs : List (Arrival u run)) → Rest before xs → Same seen (delivered before) →
        frames_out (reader before) (as_media_all (not_too_long (arriving xs))) ≡ frames (opened_behind seen xs)
    opens before seen [] e m = refl
    opens before seen (delivery g ∷ xs) e m =
        let x : Event u run = genuine g room in
        let ps : List (List ℕ) = not_too_long (arriving xs) in
        let m' : Same (g.index ∷ seen) (delivered (before ++ (x ∷ []))) =
        subst (Same (g.index ∷ seen)) (sym (delivered-append before (x ∷ []))) (same-last seen (delivered before) g.index m) in
        ap (λ (qs : List (List ℕ)). frames_out (reader before) (as_media_all qs)) (short (bytes_of g) ps (genuine-short g))
        ∙ one-delivery before g (events_of xs, e) ps (opened_behind (g.index ∷ seen) xs)
        (opens (before ++ (x ∷ [])) (g.index ∷ seen) xs (rest-next before (delivery g) xs e) m') (mem g.index seen) (sym (m g.index))
    opens before seen (stray b ∷ xs) e m =
        let x : Event u run = strange b room in
        let ps : List (List ℕ) = not_too_long (arriving xs) in
        let h : IsRefused (outcome_of 0 before x) = s.stray_refused before b room (events_of xs, e) in
        let m' : Same seen (delivered (before ++ (x ∷ []))) =
        subst (Same seen) (sym (delivered-append before (x ∷ []) ∙ append-nil (delivered before))) m in
        passed (reader before) b ps h (leb (length b) 2058)
        ∙ ap (λ (r : Receiver). frames_out r (as_media_all ps)) (sym (reader-stays before x h))
        ∙ opens (before ++ (x ∷ [])) seen xs (rest-next before (stray b) xs e) m'

    -- ---- what the desk writes: nothing until the first delivery, which fixes the receiver
    fixes : (before : List (Event u run)) (g : Genuine u run) → Comes (events_of evening) before (genuine g room) → reader before ≡ r₀ →
        delivered before ≡ [] → (ps : List (List ℕ)) →
        served (start key) (bytes_of g ∷ ps) ≡ frames_out (reader before) (as_media_all (bytes_of g ∷ ps))
    fixes before g c e n ps =
        let o = accepts before g c (ap (mem g.index) n) in
        let b : List ℕ = bytes_of g in
        let d : Outcome Receiver = done (packet_of g) g.index o.0 in
        let own : receiving (fresh key (rtp_ssrc b)) (as_media b) ≡ d =
        ap (λ (k : ℕ). receiving (fresh key k) (as_media b)) (genuine-ssrc g)
        ∙ ap (λ (r : Receiver). receiving r (as_media b)) (fresh-is key ssrc ∙ sym e) ∙ o.1 in
        by_first key b ps d own
        ∙ ap (λ (t : List ℕ). framed (packet_of g) ++ t) (fixed-served key ps o.0)
        ∙ ap (λ (x : Outcome Receiver). written x ++ frames_out (next_of x (reader before)) (as_media_all ps)) (sym o.1)

    serves : (before : List (Event u run)) (xs : List (Arrival u run)) → Rest before xs → reader before ≡ r₀ → delivered before ≡ [] →
        EachRefused key (strays_first xs) → served (start key) (not_too_long (arriving xs)) ≡ frames (opened xs)
    serves before [] e f n h = refl
    serves before (delivery g ∷ xs) e f n h =
        let ps : List (List ℕ) = not_too_long (arriving xs) in
        let l = short (bytes_of g) ps (genuine-short g) in
        ap (served (start key)) l ∙ fixes before g (events_of xs, e) f n ps
        ∙ ap (λ (qs : List (List ℕ)). frames_out (reader before) (as_media_all qs)) (sym l)
        ∙ opens before [] (delivery g ∷ xs) e (λ i. ap (mem i) (sym n))
    serves before (stray b ∷ xs) e f n h =
        let x : Event u run = strange b room in
        passed_first key b (not_too_long (arriving xs)) h.0 (leb (length b) 2058)
        ∙ serves (before ++ (x ∷ [])) xs (rest-next before (stray b) xs e)
        (reader-stays before x (s.stray_refused before b room (events_of xs, e)) ∙ f)
        (delivered-append before (x ∷ []) ∙ append-nil (delivered before) ∙ n) h.1

-- THE THEOREM: whatever of a sender's run reaches the desk in the course of an evening, in whatever order and however often, with whatever
-- stray packets among it, if each delivery keeps up and each stray packet is refused, the desk writes the packets that were sent, each at its
-- first delivery, framed, and nothing else.
pub desk-evening : (key : List ℕ) (ssrc : ℕ) (run : List Call) (evening : List (Arrival (set_up_under key ssrc) run)) → length key ≡ 30 →
    BytesIn run → SupposedAtDesk key ssrc run evening → output key (frames (arriving evening)) ≡ frames (opened evening)
desk-evening key ssrc run evening k bytes s =
    let ps : List (List ℕ) = arriving evening in
    let read : packets (frames ps) ≡ not_too_long ps =
    ap packets (sym (append-nil (frames ps))) ∙ frames-read ps [] (all_fit key ssrc run bytes evening s.stray_fits) (omega arith) in
    key-served key (frames ps) k ∙ ap (served (start key)) read
    ∙ serves key ssrc run bytes evening s [] evening refl refl refl s.own_refused
