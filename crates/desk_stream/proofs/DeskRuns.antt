-- The same of the code: of any list of calls of `Desk::serve` that meet its contract, from the desk of a key file on. Assumes nothing.
use Prim.Native.Nat.{ℕ}
use mathlib.Core.List.{List}
use mathlib.Core.Path.{◌≡◌, ap, ◌∙◌}
use lib.ListN.{length}
use Rattle.octets.specs.BigEndian.{Bytes}
use Rattle.demands.specs.Runs.{BytesIn}
use Rattle.demands.specs.Runs.{Call as SenderCall}
use Rattle.desk.specs.Framing.{frames}
use Rattle.desk.specs.Listening.{set_up_under, output}
use Rattle.desk.specs.Reads.{Starts}
use Rattle.desk.specs.Runs.{Call, Run, taken, written}
use Rattle.desk.specs.declared.Start.{Start}
use Rattle.desk.proofs.RunLaws.{run-output}
use Rattle.desk_stream.specs.Streams.{packets_of, DeskOpens, protected_by, plain_by}
use Rattle.desk_stream.specs.DeskEvening.{Arrival, arriving, opened, SupposedAtDesk}
use Rattle.desk_stream.proofs.DeskOpens.{desk-opens}
use Rattle.desk_stream.proofs.DeskEvening.{desk-evening}
use Rattle.desk_stream.proofs.SentThrough.{sent-through}

module _ (key : List ℕ) (s : Start) (h : Starts key s) (calls : List Call) (r : Run s.desk calls) where
  -- what the calls wrote is what is opened of the input that they took
  pub run-opens : Bytes (taken calls) → (d : DeskOpens key (taken calls)) × (written calls ≡ frames (packets_of d.openings))
  run-opens y =
      let d : DeskOpens key (taken calls) = desk-opens key (taken calls) y in
      (d, run-output key s h calls r ∙ d.writes)

  -- and of a sender's run, what was sent
  pub run-sent-through : (ssrc : ℕ) (run : List SenderCall) → length key ≡ 30 → BytesIn run → taken calls ≡ frames (protected_by (set_up_under key ssrc) run)
      → written calls ≡ frames (plain_by (set_up_under key ssrc) run)
  run-sent-through ssrc run k y e = run-output key s h calls r ∙ ap (output key) e ∙ sent-through key ssrc run k y

  -- and in the course of an evening, what was sent, each packet at its first delivery
  pub run-evening : (ssrc : ℕ) (run : List SenderCall) (evening : List (Arrival (set_up_under key ssrc) run)) → length key ≡ 30 → BytesIn run
      → SupposedAtDesk key ssrc run evening → taken calls ≡ frames (arriving evening) → written calls ≡ frames (opened evening)
  run-evening ssrc run evening k y supposed e = run-output key s h calls r ∙ ap (output key) e ∙ desk-evening key ssrc run evening k y supposed
