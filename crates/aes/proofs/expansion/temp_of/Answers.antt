use mathlib.Core.Path.{◌≡◌, ap, ap₂, ◌∙◌}
use Prim.Native.Nat.{ℕ, ◌*◌, ◌%◌, ◌^◌}
use native.Mathlib.Omega.{arith}
use borrow.Author.Tests.{eq-eqb, ne_eqb, lt-ltb, le-ltb}
use lib.Bits.{bit_xor}
use Rattle.aes.specs.KeyExpansion.{temp, sub_word}
use Rattle.aes.proofs.expansion.temp_of.Goals as goal
use Rattle.aes.proofs.expansion.temp_of.Goals.{else-nk-gt6-via-then-nk-gt6+else-m-eq4, else-nk-gt6-via-else-nk-gt6}

pub returns-then-m-eq0 : goal.returns-then-m-eq0
unfolding temp
returns-then-m-eq0 c =
    let e : c.from-c.result * 2 ^ 24 % 2 ^ 32 ≡ c.rcon.result * 2 ^ 24 = omega arith in
    simp (eq-eqb _ _ c.if-m-eq0.true)
    (ap₂ bit_xor (c.sub_word.ensures ∙ ap sub_word c.rot_word.ensures) (e ∙ ap (λ (n : ℕ). n * 2 ^ 24) c.rcon.ensures))

pub returns-then-m-eq4 : goal.returns-then-m-eq4
unfolding temp
returns-then-m-eq4 c =
    simp (ne_eqb _ _ c.if-m-eq0.false, lt-ltb _ _ c.if-nk-gt6.true, eq-eqb _ _ c.if-m-eq4.true) c.sub_word-then-m-eq4.ensures

pub returns : goal.returns
unfolding temp
returns c = elim c.else-nk-gt6.branch [
  | else-nk-gt6-via-then-nk-gt6+else-m-eq4 w ↦ simp (ne_eqb _ _ c.if-m-eq0.false, lt-ltb _ _ w.if-nk-gt6.true, ne_eqb _ _ w.if-m-eq4.false)
  | else-nk-gt6-via-else-nk-gt6 w ↦ simp (ne_eqb _ _ c.if-m-eq0.false, le-ltb _ _ w.if-nk-gt6.false)
]
