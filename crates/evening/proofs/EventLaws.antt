-- Laws of the events of an evening, and of the calls that they are, one list behind another. Assumes nothing.
use Prim.Native.Nat.{ℕ}
use native.Mathlib.Omega.{arith}
use mathlib.Core.Path.{◌≡◌, refl, sym, ap, ◌∙◌}
use mathlib.Core.List.{List, [], ◌∷◌, ◌++◌, append_assoc}
use Rattle.octets.specs.BigEndian.{Bytes}
use Rattle.session.specs.SetUps.{SetUp}
use Rattle.srtp.specs.declared.Receiver.{Receiver}
use Rattle.srtp.specs.Outcomes.{Answer, answer_of, next_of}
use Rattle.demands.specs.Runs.{Kind, media, control, Call, receiving, after, accepted_by, accepted, BytesIn}
use Rattle.evening.specs.Evening.{Event, genuine, strange, other, call_of, calls_of, delivered}

pub accepted-append : (k : Kind) (r : Receiver) (cs ds : List Call) →
    accepted k r (cs ++ ds) ≡ accepted k r cs ++ accepted k (after receiving r cs) ds
accepted-append k r [] ds = refl
accepted-append k r (c ∷ cs) ds =
    let r' = next_of (receiving r c) r in
    let is = accepted_by k c.kind (answer_of (receiving r c)) in
    ap (λ (js : List ℕ). is ++ js) (accepted-append k r' cs ds) ∙ sym (append_assoc is (accepted k r' cs) _)

-- a call that does not receive media accepts nothing as media
pub other_none : (k : Kind) (a : Answer) → (k ≡ media → ⊥) → accepted_by media k a ≡ []
other_none media a n = absurd (n refl)
other_none control a n = refl

pub bytes-in : (run earlier : List Call) (c : Call) (later : List Call) → BytesIn run → run ≡ earlier ++ (c ∷ later) → Bytes c.packet
bytes-in run earlier c later b e = go earlier (rw e at b)
  where
    go : (earlier : List Call) → BytesIn (earlier ++ (c ∷ later)) → Bytes c.packet
    go [] b = b.0
    go (x ∷ earlier) b = go earlier b.1

module _ {u : SetUp} {run : List Call} where
  pub calls-append : (es fs : List (Event u run)) → calls_of (es ++ fs) ≡ calls_of es ++ calls_of fs
  calls-append [] fs = refl
  calls-append (e ∷ es) fs = ap (λ (cs : List Call). call_of e ∷ cs) (calls-append es fs)

  pub delivered-append : (es fs : List (Event u run)) → delivered (es ++ fs) ≡ delivered es ++ delivered fs
  delivered-append [] fs = refl
  delivered-append (genuine g d ∷ es) fs = ap (λ (is : List ℕ). g.index ∷ is) (delivered-append es fs)
  delivered-append (strange b d ∷ es) fs = delivered-append es fs
  delivered-append (other c n ∷ es) fs = delivered-append es fs

-- ---- every list of calls is that of an evening: whatever receives media may be called strange
pub control-other : control ≡ media → ⊥
control-other e = let z : ◌≡◌ {A = ℕ} 0 1 = cc in omega arith

module _ {u : SetUp} {run : List Call} where
  event-for : (k : Kind) (b d : List ℕ) → (e : Event u run) × (call_of e ≡ record { kind = k; packet = b; buffer = d })
  event-for media b d = (strange b d, refl)
  event-for control b d = (other (record { kind = control; packet = b; buffer = d }) control-other, refl)

  pub every-run : (calls : List Call) → (evening : List (Event u run)) × (calls_of evening ≡ calls)
  every-run [] = ([], refl)
  every-run (c ∷ cs) =
      let e = event-for c.kind c.packet c.buffer in
      let es = every-run cs in
      (e.0 ∷ es.0, λ i. e.1 i ∷ es.1 i)
