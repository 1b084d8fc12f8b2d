-- Runs of a receiver. Session and rollover counter stay, row 1 goes on passing, and each window is the one it started as with the indices
-- marked that the calls accepted, each new in its turn. Assumes nothing.
use Prim.Native.Nat.{ℕ, ◌≤◌, max}
use native.Mathlib.Omega.{arith}
use mathlib.Core.Path.{◌≡◌, refl, ◌∙◌}
use mathlib.Core.Bool.{Bool, true, ◌&&◌}
use mathlib.Core.List.{List, [], ◌∷◌, ◌++◌}
use lib.ListN.{length}
use borrow.Author.Tests.{le-leb, leb-true}
use Rattle.std.specs.Prelude.{Option, None, Some, Ok}
use Rattle.std.proofs.lemmas.Bool.{and_parts}
use Rattle.replay.specs.Index.{max_media_index, max_control_index}
use Rattle.replay.specs.Accepted.{raise}
use Rattle.replay.specs.Window.{window_length, window_verdict, window_mark, window_mark_all}
use Rattle.replay.specs.declared.window.Window.{Window}
use Rattle.srtp.specs.declared.Receiver.{Receiver}
use Rattle.srtp.specs.Outcomes.{Outcome, refused, done, answer_of, next_of}
use Rattle.session.specs.SetUps.{settings_listed}
use Rattle.srtp.specs.Contexts.{highest_at_most, receiver_listed}
use Rattle.demands.specs.Runs.{Kind, media, control, Call, receive, receiving, after, accepted_by, accepted}
use Rattle.demands.proofs.PacketKinds.{max_index, window_of, marked}
use Rattle.demands.proofs.WindowTurns.{NewInTurn}
use Rattle.demands.proofs.Receiving.{accepts}

-- ---- row 1
receiver-parts : (r : Receiver) → receiver_listed r ≡ true →
    (settings_listed r.session.settings ≡ true) × (highest_at_most max_media_index r.media.highest ≡ true)
    × (highest_at_most max_control_index r.control.highest ≡ true)
unfolding receiver_listed
receiver-parts r g =
    let m : Bool = highest_at_most max_media_index r.media.highest in
    let c : Bool = highest_at_most max_control_index r.control.highest in
    let a = and_parts (settings_listed r.session.settings) (m && c) g in
    let b = and_parts m c a.1 in
    (a.0, b.0, b.1)

pub receiver-settings : (r : Receiver) → receiver_listed r ≡ true → settings_listed r.session.settings ≡ true
receiver-settings r g = (receiver-parts r g).0

raise-most : (n : ℕ) (h : Option ℕ) (i : ℕ) → highest_at_most n h ≡ true → i ≤ n → highest_at_most n (raise h i) ≡ true
raise-most n None i e l = le-leb i n l
raise-most n (Some h) i e l = le-leb (max h i) n (omega (arith, leb-true h n e))

marked-listed : (k : Kind) (r : Receiver) (i : ℕ) → receiver_listed r ≡ true → i ≤ max_index k → receiver_listed (marked k r i) ≡ true
unfolding receiver_listed
marked-listed media r i g l =
    let h = receiver-parts r g in
    rw (h.0, raise-most max_media_index r.media.highest i h.1 l, h.2)
marked-listed control r i g l =
    let h = receiver-parts r g in
    rw (h.0, h.1, raise-most max_control_index r.control.highest i h.2 l)

-- ---- what stays
pub record Kept (r r' : Receiver) : Type 0 where
  pub session : r'.session ≡ r.session
  pub rollover : r'.rollover ≡ r.rollover
  pub row1 : receiver_listed r ≡ true → receiver_listed r' ≡ true

marked-kept : (k : Kind) (r : Receiver) (i : ℕ) → i ≤ max_index k → Kept r (marked k r i)
marked-kept media r i l = record { session = refl; rollover = refl; row1 = λ g. marked-listed media r i g l }
marked-kept control r i l = record { session = refl; rollover = refl; row1 = λ g. marked-listed control r i g l }

next-kept : (k : Kind) (r : Receiver) (b : List ℕ) (room : ℕ) (o : Outcome Receiver) → receive k r b room ≡ o → Kept r (next_of o r)
next-kept k r b room (refused n) e = record { session = refl; rollover = refl; row1 = λ g. g }
next-kept k r b room (done p i r') e = let h = accepts k r b room p i r' e in rw h.next (marked-kept k r i h.admits.below)

pub run-kept : (r : Receiver) (cs : List Call) → Kept r (after receiving r cs)
run-kept r [] = record { session = refl; rollover = refl; row1 = λ g. g }
run-kept r (c ∷ cs) =
    let a = next-kept c.kind r c.packet (length c.buffer) (receiving r c) refl in
    let b = run-kept (next_of (receiving r c) r) cs in
    record { session = b.session ∙ a.session; rollover = b.rollover ∙ a.rollover; row1 = λ g. b.row1 (a.row1 g) }

-- ---- the windows: a call leaves one as it was and accepts nothing for it, or marks the new index that it accepts
data Step (w : Window) : Window → List ℕ → Type 0 where
  still : Step w w []
  moves : (i : ℕ) → window_verdict window_length w i ≡ Ok tt → Step w (window_mark window_length w i) (i ∷ [])

step : (k j : Kind) (r : Receiver) (b : List ℕ) (room : ℕ) (o : Outcome Receiver) → receive j r b room ≡ o →
    Step (window_of k r) (window_of k (next_of o r)) (accepted_by k j (answer_of o))
step media media r b room (refused n) e = still
step media control r b room (refused n) e = still
step control media r b room (refused n) e = still
step control control r b room (refused n) e = still
step media media r b room (done p i r') e = let h = accepts media r b room p i r' e in rw h.next (moves i h.new)
step media control r b room (done p i r') e = rw (accepts control r b room p i r' e).next still
step control media r b room (done p i r') e = rw (accepts media r b room p i r' e).next still
step control control r b room (done p i r') e = let h = accepts control r b room p i r' e in rw h.next (moves i h.new)

call_step : (k : Kind) (r : Receiver) (c : Call) →
    Step (window_of k r) (window_of k (next_of (receiving r c) r)) (accepted_by k c.kind (answer_of (receiving r c)))
call_step k r c = step k c.kind r c.packet (length c.buffer) (receiving r c) refl

marks-on : {w w' : Window} {is : List ℕ} (js : List ℕ) → Step w w' is →
    window_mark_all window_length w' js ≡ window_mark_all window_length w (is ++ js)
marks-on js still = refl
marks-on js (moves i v) = refl

turns-on : {w w' : Window} {is : List ℕ} (js : List ℕ) → Step w w' is → NewInTurn window_length w' js →
    NewInTurn window_length w (is ++ js)
turns-on js still t = t
turns-on js (moves i v) t = (v, t)

pub run-window : (k : Kind) (r : Receiver) (cs : List Call) →
    window_of k (after receiving r cs) ≡ window_mark_all window_length (window_of k r) (accepted k r cs)
run-window k r [] = refl
run-window k r (c ∷ cs) = let r' = next_of (receiving r c) r in run-window k r' cs ∙ marks-on (accepted k r' cs) (call_step k r c)

pub run-turns : (k : Kind) (r : Receiver) (cs : List Call) → NewInTurn window_length (window_of k r) (accepted k r cs)
run-turns k r [] = tt
run-turns k r (c ∷ cs) = let r' = next_of (receiving r c) r in turns-on (accepted k r' cs) (call_step k r c) (run-turns k r' cs)
