-- The loop's invariant: if the words before W_t were in the ring, where t is a multiple of 16, those before W_{t+i} are.
use Rattle.std.proofs.Common.{◌≡◌, ℕ, ◌+◌, ◌%◌, ◌≤◌, List}
use Rattle.hmac_sha1.specs.Parts.{Ring}
use Rattle.hmac_sha1.proofs.block.advance.Given as goal

abbrev pub invariant-loop-i : goal.invariant-loop-i
invariant-loop-i l = (m : List ℕ) (t : ℕ) → t % 16 ≡ 0 → 16 ≤ t → t ≤ 64 → Ring m t l.initial.w → Ring m (t + l.i) l.w
