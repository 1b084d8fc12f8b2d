-- The whole evening, proved of every run and of every evening. Assumes nothing.
use Prim.Native.Nat.{ℕ, ◌%◌, ◌^◌, ◌≤◌, ◌<◌}
use native.Mathlib.Omega.{arith}
use mathlib.Core.Path.{◌≡◌, refl, sym, ap, subst, ◌∙◌}
use mathlib.Core.Logic.{inl, inr}
use mathlib.Core.Bool.{Bool, true, false, cond}
use mathlib.Core.List.{List, [], ◌∷◌, ◌++◌, append_assoc, append-nil}
use lib.ListN.{length}
use Rattle.std.specs.Prelude.{Option, None, Some, Err}
use Rattle.replay.specs.Accepted.{mem, highest_of}
use Rattle.transforms.specs.Rcc.{carries_counter}
use Rattle.transforms.specs.declared.Integrity.TheVariants.{HmacSha1}
use Rattle.session.specs.SetUps.{SetUp}
use Rattle.srtp.specs.declared.Refusal.TheVariants.{Repeat}
use Rattle.srtp.specs.Contexts.{set_up_receiver}
use Rattle.srtp.specs.Outcomes.{Answer, answer_of}
use Rattle.demands.specs.Runs.{Kind, media, Call, accepted_by, BytesIn}
use Rattle.demands.specs.Words.{Made, Finishes, Reaches, WithinReach, has_whole_index, accepted_as}
use Rattle.demands.proofs.Demand2.{sender-demand2}
use Rattle.demands.proofs.Demand3.{receiver-demand3, repeat-refused}
use Rattle.evening.specs.Evening.{Genuine, packet_of, bytes_of, Event, genuine, strange, other, call_of, calls_of, delivered, firsts, Comes, outcome_of, KeepsUp, Supposed, Shown, WholeEvening, PlainEvening}
use Rattle.evening.proofs.FirstLaws.{firsts-last, firsts-mem, firsts-highest}
use Rattle.evening.proofs.EventLaws.{bytes-in, accepted-append, other_none, calls-append, delivered-append}

-- what keeps up with the highest index delivered is within reach of it
reaches : (whole : Bool) (rollover : ℕ) (h : Option ℕ) (i : ℕ) → KeepsUp whole rollover h i → Reaches whole rollover h i
reaches false rollover None i k = omega arith
reaches true rollover None i k = tt
reaches false rollover (Some h) i (inl (a, b)) = (omega arith, omega arith)
reaches false rollover (Some h) i (inr (a, b)) = (omega arith, omega arith)
reaches true rollover (Some h) i (inl (a, b)) = omega arith
reaches true rollover (Some h) i (inr a) = omega arith

module _ (u : SetUp) (rollover : ℕ) (run : List Call) (evening : List (Event u run)) (w : rollover < 2 ^ 32)
    (bytes : BytesIn run) (s : Supposed (has_whole_index media u) u rollover run evening) where
  abbrev indices : List (Event u run) → List ℕ
  indices before = accepted_as u rollover None media (calls_of before)

  -- so far the indices accepted are those delivered, each where it came first
  abbrev Follows : List (Event u run) → Type 0
  Follows before = indices before ≡ firsts (delivered before)

  made : (g : Genuine u run) → Made media u (packet_of g) g.index (bytes_of g)
  made g =
      subst (λ (k : Kind). Made k u (packet_of g) g.index (bytes_of g)) g.is_media
      ((sender-demand2 u).makes g.earlier g.call g.index
      (bytes-in run g.earlier g.call g.later bytes g.in_run) g.sent)

  seen : (before : List (Event u run)) (i : ℕ) → Follows before → mem i (indices before) ≡ mem i (delivered before)
  seen before i f = ap (λ (is : List ℕ). mem i is) f ∙ firsts-mem (delivered before) i

  within : (before : List (Event u run)) (g : Genuine u run) (d : List ℕ) → Comes evening before (genuine g d) → Follows before →
      WithinReach u rollover None media (calls_of before) g.index
  within before g d c f =
      rw (f, firsts-highest (delivered before)) (reaches (has_whole_index media u g.index) rollover _ g.index (s.keeps_up before g d c))

  has_room : (before : List (Event u run)) (g : Genuine u run) (d : List ℕ) → Comes evening before (genuine g d) →
      length (packet_of g) ≤ length d
  has_room before g d c = let l = s.room before g d c in omega arith

  -- ---- a genuine delivery
  first : (before : List (Event u run)) (g : Genuine u run) (d : List ℕ) → Comes evening before (genuine g d) → Follows before →
      mem g.index (delivered before) ≡ false → Finishes (outcome_of rollover before (genuine g d)) d (packet_of g) g.index
  first before g d c f new =
      let e : Event u run = genuine g d in
      (receiver-demand3 u rollover None w tt (calls_of before ++ (call_of e ∷ []))).accepts (calls_of before) (call_of e) [] refl
      (packet_of g) g.index (made g) (seen before g.index f ∙ new) (within before g d c f) (has_room before g d c)

  -- with a call more
  last : (before : List (Event u run)) (e : Event u run) →
      indices (before ++ (e ∷ [])) ≡ indices before ++ (accepted_by media (call_of e).kind (answer_of (outcome_of rollover before e)))
  last before e =
      ap (accepted_as u rollover None media) (calls-append before (e ∷ []))
      ∙ accepted-append media (set_up_receiver u rollover None).context (calls_of before) (call_of e ∷ [])
      ∙ ap (λ (is : List ℕ). indices before ++ is) (append-nil _)

  again : (before : List (Event u run)) (g : Genuine u run) (d : List ℕ) → Comes evening before (genuine g d) → Follows before →
      mem g.index (delivered before) ≡ true → answer_of (outcome_of rollover before (genuine g d)) ≡ Err Repeat
  again before g d c f old =
      repeat-refused u rollover None w tt (calls_of before) (call_of (genuine g d)) (packet_of g) g.index (made g)
      (seen before g.index f ∙ old) (within before g d c f) (has_room before g d c)

  -- ---- one call after the other
  step : (before : List (Event u run)) (e : Event u run) → Comes evening before e → Follows before → Follows (before ++ (e ∷ []))
  step before e c f = last before e ∙ go e c ∙ ap firsts (sym (delivered-append before (e ∷ [])))
    where
      none : indices before ++ [] ≡ firsts (delivered before ++ [])
      none = append-nil (indices before) ∙ f ∙ ap firsts (sym (append-nil (delivered before)))

      on-delivery : (g : Genuine u run) (d : List ℕ) → Comes evening before (genuine g d) → (t : Bool) → mem g.index (delivered before) ≡ t →
          indices before ++ accepted_by media media (answer_of (outcome_of rollover before (genuine g d)))
          ≡ firsts (delivered before) ++ cond t [] (g.index ∷ [])
      on-delivery g d c true m =
          ap (λ (a : Answer). indices before ++ accepted_by media media a) (again before g d c f m) ∙ ap (λ (is : List ℕ). is ++ []) f
      on-delivery g d c false m =
          ap (λ (a : Answer). indices before ++ accepted_by media media a) (first before g d c f m).answer
          ∙ ap (λ (is : List ℕ). is ++ (g.index ∷ [])) f

      go : (e : Event u run) → Comes evening before e →
          indices before ++ accepted_by media (call_of e).kind (answer_of (outcome_of rollover before e))
          ≡ firsts (delivered before ++ delivered (e ∷ []))
      go (genuine g d) c =
          on-delivery g d c (mem g.index (delivered before)) refl ∙ sym (firsts-last (delivered before) g.index)
      go (strange b d) c = ap (λ (a : Answer). indices before ++ accepted_by media media a) (s.strange_refused before b d c).1 ∙ none
      go (other x n) c =
          ap (λ (is : List ℕ). indices before ++ is) (other_none x.kind (answer_of (outcome_of rollover before (other x n))) n) ∙ none

  follows : (before between after : List (Event u run)) → evening ≡ before ++ (between ++ after) → Follows before →
      Follows (before ++ between)
  follows before [] after e f = rw (append-nil before) f
  follows before (x ∷ between) after e f =
      rw (← append_assoc before (x ∷ []) between)
      (follows (before ++ (x ∷ [])) between after (e ∙ sym (append_assoc before (x ∷ []) (between ++ after)))
      (step before x (between ++ after, e) f))

  so_far : (before : List (Event u run)) (e : Event u run) → Comes evening before e → Follows before
  so_far before e (after, p) = follows [] before (e ∷ after) p refl

  shown : Shown u rollover run evening
  shown =
      let all : Follows evening = follows [] evening [] (sym (append-nil evening)) refl in
      record {
        first = λ before g d c new. first before g d c (so_far before (genuine g d) c) new;
        again = λ before g d c old. again before g d c (so_far before (genuine g d) c) old;
        indices = all;
        precisely = λ i. seen evening i all;
      }

-- a rollover counter has 32 bits, and what is given to the sender are bytes, as the types of the code have it
pub whole-evening : (u : SetUp) (rollover : ℕ) (run : List Call) (evening : List (Event u run)) → rollover < 2 ^ 32 → BytesIn run →
    WholeEvening u rollover run evening
whole-evening u rollover run evening w bytes s = shown u rollover run evening w bytes s

-- ---- the paragraph without its last sentence
-- what keeps up without its whole index keeps up with it
keeps-up-whole : (whole : Bool) (rollover : ℕ) (h : Option ℕ) (i : ℕ) → KeepsUp false rollover h i → KeepsUp whole rollover h i
keeps-up-whole false rollover h i k = k
keeps-up-whole true rollover None i k = tt
keeps-up-whole true rollover (Some h) i (inl b) = inl b
keeps-up-whole true rollover (Some h) i (inr a) = inr a.0

pub plain-evening : (u : SetUp) (rollover : ℕ) (run : List Call) (evening : List (Event u run)) → rollover < 2 ^ 32 → BytesIn run →
    PlainEvening u rollover run evening
plain-evening u rollover run evening w bytes s =
    whole-evening u rollover run evening w bytes (record {
      keeps_up = λ before g d c.
          keeps-up-whole (has_whole_index media u g.index) rollover (highest_of None (delivered before)) g.index (s.keeps_up before g d c);
      room = s.room;
      strange_refused = s.strange_refused;
    })

-- without RFC 4771's transform no media packet has its whole index in it, and the two suppose the same
pub same-supposed : (u : SetUp) → u.profile.integrity ≡ HmacSha1 → (rollover : ℕ) (run : List Call) (evening : List (Event u run)) →
    Supposed (has_whole_index media u) u rollover run evening ≡ Supposed (λ i. false) u rollover run evening
same-supposed u e rollover run evening = λ t. Supposed (λ i. carries_counter (e t) (i % 65536)) u rollover run evening
