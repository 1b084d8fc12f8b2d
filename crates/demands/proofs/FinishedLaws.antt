-- A call that answers a finished packet: its outcome, and what comes out of it. Assumes nothing.
use Prim.Native.Nat.{ℕ}
use native.Mathlib.Omega.{arith}
use mathlib.Core.Path.{◌≡◌, ap}
use mathlib.Core.List.{List}
use Rattle.octets.proofs.BufferLaws.{take-over}
use Rattle.srtp.specs.Outcomes.{Outcome, Answer, refused, done, answer_of, shown}
use Rattle.demands.specs.Words.{FinishedAt, Finishes}

pub finished : {S : Type 0} (o : Outcome S) (i : ℕ) → FinishedAt o i → (p : List ℕ) × (s : S) × (o ≡ done p i s)
finished (refused n) i (len, e) = let z : ◌≡◌ {A = ℕ} 0 1 = cc in absurd (omega arith)
finished (done p j s) i (len, e) = let x : j ≡ i = ap (λ (a : Answer). (shown a).index) e in (p, s, rw x)

pub finishes : {S : Type 0} (o : Outcome S) (d p : List ℕ) (i : ℕ) (s : S) → o ≡ done p i s → Finishes o d p i
finishes o d p i s e = record { answer = ap answer_of e; out_is = rw e (take-over p d) }
