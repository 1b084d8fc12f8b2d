-- What is read from an answer is what was written, and what it tells is what was answered. Assumes nothing.
use mathlib.Core.List.{List}
use mathlib.Core.Path.{◌≡◌, refl, ◌∙◌}
use Prim.Native.Nat.{ℕ, ◌*◌, ◌^◌, ◌≤◌, ◌<◌}
use native.Mathlib.Nat.{mod-eq_of_lt}
use native.Mathlib.Omega.{arith}
use lib.ListN.{length}
use Rattle.std.proofs.lemmas.Bool.Decides.{nat_tests}
use Rattle.std.specs.Prelude.{Ok}
use Rattle.octets.proofs.BigEndianLaws.{from-to_bytes}
use Rattle.octets.specs.BigEndian.{to_bytes, from_bytes}
use Rattle.srtp.specs.Refusals.{number_of}
use Rattle.srtp.specs.declared.Refusal.{Refusal}
use Rattle.tell.specs.Reading.{front_of, refusal_of, told_of}
use Rattle.tell.specs.declared.reading.Told.TheVariants.{Ready, Sent, Accepted, Refused, Misfit}
use Rattle.trace_records.specs.Answers.{head_bytes, answer_bytes, number_alone, misfit_head, call_head, set_up_head}
use Rattle.trace_records.specs.declared.Head.{Head}

-- a number that fits its bytes is read as it was written
number-back : (n v : ℕ) → v < 2 ^ (8 * n) → from_bytes (to_bytes n v) ≡ v
number-back n v h = from-to_bytes n v ∙ mod-eq_of_lt h

-- the bytes of an answer give back its op, its head and the size of its buffer
pub front-back : (op : ℕ) (h : Head) (buffer : List ℕ) → h.index < 2 ^ 64 → h.len < 2 ^ 16 → length buffer < 2 ^ 16
    → front_of (answer_bytes op h buffer) ≡ record { op = op; head = h; room = length buffer }
unfolding front_of head_bytes
front-back op h buffer hi hn hr =
    rw (number-back 8 h.index hi, number-back 2 h.len hn, number-back 2 (length buffer) hr)

-- the heads that `trace` writes tell what was answered
pub misfit-told : (op : ℕ) → told_of op misfit_head ≡ Misfit
unfolding told_of
misfit-told op = refl

module _ (op : ℕ) where
  pub ready-told : 1 ≤ op → op < 3 → told_of op (set_up_head (Ok tt)) ≡ Ready
  unfolding told_of
  ready-told a b = grind (arith, nat_tests)

  pub sent-told : (n i : ℕ) → 3 ≤ op → op < 5 → told_of op (call_head (Ok (record { len = n; index = i }))) ≡ Sent n i
  unfolding told_of
  sent-told n i a b = grind (arith, nat_tests)

  pub accepted-told : (n i : ℕ) → 5 ≤ op → op ≤ 6 → told_of op (call_head (Ok (record { len = n; index = i }))) ≡ Accepted n i
  unfolding told_of
  accepted-told n i a b = grind (arith, nat_tests)

-- of a refusal of a set-up, `set_up_head`, or of a call, `call_head`
pub refused-told : (op : ℕ) (r : Refusal) → 1 ≤ op → op ≤ 6 → told_of op (number_alone (number_of r)) ≡ Refused r
unfolding told_of refusal_of
refused-told op r a b = grind (arith, nat_tests)
