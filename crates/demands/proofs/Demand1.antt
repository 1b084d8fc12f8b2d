-- Demand 1, second part: a refusal leaves context and buffer as they stood; a success leaves the bytes behind the packet alone.
-- Of every context, of runs or not. Assumes nothing.
use Prim.Native.Nat.{ℕ, ◌≤◌}
use native.Mathlib.Omega.{arith}
use mathlib.Core.Path.{◌≡◌, refl, ap}
use mathlib.Core.List.{List}
use lib.ListN.{length}
use Rattle.std.specs.Prelude.{Ok, Err}
use Rattle.octets.proofs.BufferLaws.{length_over, drop-over}
use Rattle.srtp.specs.declared.Refusal.{Refusal}
use Rattle.srtp.specs.declared.Sender.{Sender}
use Rattle.srtp.specs.declared.Receiver.{Receiver}
use Rattle.srtp.specs.Outcomes.{Outcome, Answer, refused, done}
use Rattle.demands.specs.Runs.{Call, sending, receiving}
use Rattle.demands.specs.Words.{answered_length}
use Rattle.demands.specs.Demands.{RefusalKeeps, SuccessKeeps}
use Rattle.demands.proofs.Sending.{sends}
use Rattle.demands.proofs.Receiving.{accepts}

pub refusal-keeps : {S : Type 0} (o : Outcome S) (s : S) (d : List ℕ) → RefusalKeeps o s d
refusal-keeps (refused m) s d = record { context = λ n e. refl; buffer = λ n e. refl }
refusal-keeps (done p i s') s d = record { context = λ n e. absurd (apart e); buffer = λ n e. absurd (apart e) }
  where
    apart : {len j : ℕ} {n : Refusal} → ◌≡◌ {A = Answer} (Ok (record { len = len; index = j })) (Err n) → ⊥
    apart e = let z : ◌≡◌ {A = ℕ} 0 1 = cc in omega arith

-- what fits keeps the rest
keeps : {S : Type 0} (o : Outcome S) (d : List ℕ) → ((p : List ℕ) (i : ℕ) (s : S) → o ≡ done p i s → length p ≤ length d) →
    SuccessKeeps o d
keeps (refused n) d f = record { fits = λ len i e. absurd (apart e); size = λ len i e. refl; behind = λ len i e. refl }
  where
    apart : {len j : ℕ} {n : Refusal} → ◌≡◌ {A = Answer} (Err n) (Ok (record { len = len; index = j })) → ⊥
    apart e = let z : ◌≡◌ {A = ℕ} 0 1 = cc in omega arith
keeps (done p j s) d f =
    record {
      fits = λ len i e. let l : length p ≡ len = ap answered_length e in rw (← l) (f p j s refl);
      size = λ len i e. length_over p d (f p j s refl);
      behind = λ len i e. let l : length p ≡ len = ap answered_length e in rw (← l) (drop-over p d);
    }

pub sender-keeps : (s : Sender) (c : Call) → SuccessKeeps (sending s c) c.buffer
sender-keeps s c = keeps (sending s c) c.buffer (λ b i s' e. (sends c.kind s c.packet (length c.buffer) b i s' e).fits)

pub receiver-keeps : (r : Receiver) (c : Call) → SuccessKeeps (receiving r c) c.buffer
receiver-keeps r c = keeps (receiving r c) c.buffer (λ p i r' e. (accepts c.kind r c.packet (length c.buffer) p i r' e).admits.fits)
