-- A run of the code: what its calls write, put together, is the output of the definition. Assumes nothing.
use Prim.Native.Nat.{ℕ, ◌+◌, ◌≤◌, ◌<◌}
use mathlib.Core.Bool.{Bool, true, false, cond, ◌&&◌}
use mathlib.Core.List.{List, [], ◌∷◌, ◌++◌}
use mathlib.Core.Path.{◌≡◌, refl, sym, ap, ap₂, subst, ◌∙◌}
use native.Mathlib.Omega.{arith}
use borrow.Author.Tests.{le-leb, leb-true, leb-false}
use lib.Dec.{leb}
use lib.ListN.{length, take}
use Rattle.octets.proofs.BufferLaws.{take-over}
use Rattle.desk.specs.Framing.{announced, packets_from, rest_from, packets}
use Rattle.srtp.specs.Calls.{receive_media}
use Rattle.srtp.specs.Contexts.{closed_receiver, receiver_listed}
use Rattle.srtp.specs.Outcomes.{Outcome, refused}
use Rattle.srtp.specs.declared.Receiver.{Receiver}
use Rattle.srtp.specs.declared.Refusal.TheVariants.{Setup}
use Rattle.desk.specs.Listening.{received, after, listened, served, start, shut, output}
use Rattle.desk.specs.Listening.{written as bytes_of}
use Rattle.desk.specs.Reads.{Holds, Stands, NotWhole, Starts, was_taken, written_length, Serves}
use Rattle.desk.specs.Runs.{Call, Run, taken, written}
use Rattle.desk.specs.declared.Desk.{Desk}
use Rattle.desk.specs.declared.Listener.{Listener}
use Rattle.desk.specs.declared.Served.{Served}
use Rattle.desk.specs.declared.Start.{Start}
use Rattle.desk.specs.declared.framing.Reader.{Reader}
use Rattle.desk.proofs.Splits.{served-more}

-- ---- no desk that the code gives holds a whole frame, so a read is taken wherever the buffer has room
held_cut : (r : Reader) (kept f : List ℕ) → Holds r kept f → (t : Bool) → leb 2 (length f) ≡ t → r.got ≤ 1 + r.len
held_cut r kept f h true e =
    let n : r.got ≡ length f = h.gathers.got in
    let l : r.len ≡ announced f = h.gathers.len (leb-true 2 (length f) e) in
    omega (arith, h.cut)
held_cut r kept f h false e =
    let n : r.got ≡ length f = h.gathers.got in
    let l : length f < 2 = leb-false 2 (length f) e in
    omega arith

pub starts-cut : (key : List ℕ) (s : Start) → Starts key s → NotWhole s.desk
starts-cut key s h = held_cut s.desk.frame.reader s.desk.frame.kept [] h.stands false refl

pub serves-cut : (d : Desk) (input before : List ℕ) (s : Served) (out : List ℕ) → Serves d input before s out → was_taken s ≡ true → NotWhole s.next
serves-cut d input before s out h e =
    let v = h.standing e in
    let f : List ℕ = rest_from v.begun input in
    held_cut s.next.frame.reader s.next.frame.kept f (h.writes e v.begun v.holds).holds (leb 2 (length f)) refl

pub takes-room : (d : Desk) (input before : List ℕ) (s : Served) (out : List ℕ) → Serves d input before s out → NotWhole d
    → length input + 4110 ≤ length before → was_taken s ≡ true
takes-room d input before s out h c room =
    let r : Reader = d.frame.reader in
    h.taken ∙ ap₂ ◌&&◌ (le-leb r.got (1 + r.len) c) (le-leb (length input + 4110) (length before) room)

-- ---- runs
-- what calls from a desk on are to write
abbrev Wrote : Desk → List Call → Type 0
Wrote d cs = (f : List ℕ) → Stands d f → written cs ≡ served d.listener (packets_from f (taken cs))

module _ (d : Desk) (c : Call) (cs : List Call) (s : Serves d c.input c.before c.result c.out) (later : Wrote c.result.next cs)
    (f : List ℕ) (h : Stands d f) where
  abbrev goal : Bool → Type 0
  goal t = take (written_length c.result) c.out ++ written cs ≡ served d.listener (packets_from f (cond t c.input [] ++ taken cs))

  one_more : (t : Bool) → was_taken c.result ≡ t → goal t
  one_more true e =
      let w = s.writes e f h in
      let mine : List ℕ = served d.listener (packets_from f c.input) in
      let l : Listener = c.result.next.listener in
      let first : take (written_length c.result) c.out ≡ mine = ap₂ take w.size w.written ∙ take-over mine c.before in
      let rest : written cs ≡ served l (packets_from (rest_from f c.input) (taken cs)) = later (rest_from f c.input) w.holds in
      let next : written cs ≡ served (listened d.listener (packets_from f c.input)) (packets_from (rest_from f c.input) (taken cs)) =
      rest ∙ ap (λ (m : Listener). served m (packets_from (rest_from f c.input) (taken cs))) w.listener in
      ap₂ (λ (x y : List ℕ). x ++ y) first next ∙ served-more d.listener f c.input (taken cs)
  one_more false e =
      let w = s.declines e in
      let none : take (written_length c.result) c.out ≡ [] = ap (λ (n : ℕ). take n c.out) w.len in
      let rest : Wrote d cs = subst (λ (x : Desk). Wrote x cs) w.next later in
      ap₂ (λ (x y : List ℕ). x ++ y) none (rest f h)

run-wrote : (d : Desk) (cs : List Call) → Run d cs → Wrote d cs
run-wrote d [] r f h = refl
run-wrote d (c ∷ cs) r f h = one_more d c cs r.0 (run-wrote c.result.next cs r.1) f h (was_taken c.result) refl

-- a desk that is shut writes nothing
shut-refuses : (p : List ℕ) → received shut p ≡ refused Setup
unfolding received receive_media closed_receiver receiver_listed
shut-refuses p = refl

shut-silent : (ps : List (List ℕ)) → served shut ps ≡ []
shut-silent [] = refl
shut-silent (p ∷ ps) =
    ap₂ (λ (x y : List ℕ). x ++ y) (ap bytes_of (shut-refuses p)) (ap (λ (o : Outcome Receiver). served (after shut o) ps) (shut-refuses p) ∙ shut-silent ps)

-- THE THEOREM: whatever the calls were given, from the desk of a key file of any bytes on, what they wrote, put together, is what the
-- definition gives for the input that they took.
pub run-output : (key : List ℕ) (s : Start) → Starts key s → (cs : List Call) → Run s.desk cs → written cs ≡ output key (taken cs)
unfolding output
run-output key s h cs r =
    run-wrote s.desk cs r [] h.stands ∙ ap (λ (l : Listener). served l ps) h.listener ∙ either s.ready
    ∙ ap (λ (b : Bool). cond b (served (start key) ps) []) h.ready
  where
    ps : List (List ℕ)
    ps = packets (taken cs)

    either : (b : Bool) → served (cond b (start key) shut) ps ≡ cond b (served (start key) ps) []
    either true = refl
    either false = shut-silent ps

-- Where the desk is not ready, nothing is written, whatever the input.
pub not-ready : (key : List ℕ) (s : Start) → Starts key s → s.ready ≡ false → (input : List ℕ) → output key input ≡ []
unfolding output
not-ready key s h f input = ap (λ (b : Bool). cond b (served (start key) (packets input)) []) (sym h.ready ∙ f)
