-- Laws of the rounds: the twenty with one function and constant, the words from the ring, rounds after rounds. Assumes nothing.
use Rattle.std.proofs.Common.{◌≡◌, ℕ, zero, suc, ◌+◌, ◌-◌, ◌*◌, ◌%◌, ◌<◌, ◌≤◌, Bool, true, false, leb, List, get_or, sym, refl, ap, ◌∙◌, add-zero, add_assoc, add-suc, add-one, arith, le-leb, leb-false, leb-true}
use borrow.Author.Tests.{lt-leb}
use Rattle.hmac_sha1.specs.declared.State.{State}
use Rattle.hmac_sha1.specs.Sha1.{parity, schedule, ft, kt, round, rounds}
use Rattle.hmac_sha1.specs.Parts.{Ring}

-- the bounds 19, 39 and 59 of f_t and K_t fall between groups
same-side : (q t n : ℕ) → 20 * q ≤ t → t < 20 * q + 20 → leb t (20 * n + 19) ≡ leb (20 * q) (20 * n + 19)
same-side q t n h k = cases (leb q n) refl
  where
    cases : (b : Bool) → leb q n ≡ b → leb t (20 * n + 19) ≡ leb (20 * q) (20 * n + 19)
    cases true e =
        let l : q ≤ n = leb-true q n e in
        le-leb t (20 * n + 19) (omega arith) ∙ sym (le-leb (20 * q) (20 * n + 19) (omega arith))
    cases false e =
        let l : n < q = leb-false q n e in
        lt-leb t (20 * n + 19) (omega arith) ∙ sym (lt-leb (20 * q) (20 * n + 19) (omega arith))

module _ (q t : ℕ) (h : 20 * q ≤ t) (l : t < 20 * q + 20) where
  ft-group : (x y z : ℕ) → ft t x y z ≡ ft (20 * q) x y z
  unfolding ft
  ft-group x y z = rw (same-side q t 0 h l, same-side q t 1 h l, same-side q t 2 h l)

  kt-group : kt t ≡ kt (20 * q)
  unfolding kt
  kt-group = rw (same-side q t 0 h l, same-side q t 1 h l, same-side q t 2 h l)

  round-group : (w : ℕ) (s : State) → round t w s ≡ round (20 * q) w s
  unfolding round
  round-group w s = rw (ft-group, kt-group)

-- past the third group
module _ (q : ℕ) (a : q ≡ 0 → ⊥) (b : q ≡ 1 → ⊥) (d : q ≡ 2 → ⊥) where
  far : 60 ≤ 20 * q
  far = omega arith

  pub ft-far : (x y z : ℕ) → parity x y z ≡ ft (20 * q) x y z
  unfolding ft
  ft-far x y z =
      let l : 60 ≤ 20 * q = far in
      rw (lt-leb (20 * q) 19 (omega arith), lt-leb (20 * q) 39 (omega arith), lt-leb (20 * q) 59 l)

  pub kt-far : 0xca62c1d6 ≡ kt (20 * q)
  unfolding kt
  kt-far =
      let l : 60 ≤ 20 * q = far in
      rw (lt-leb (20 * q) 19 (omega arith), lt-leb (20 * q) 39 (omega arith), lt-leb (20 * q) 59 l)

-- some rounds, and then more
pub rounds-add : (w : List ℕ) (t m n : ℕ) (s : State) → rounds w (t + m) n (rounds w t m s) ≡ rounds w t (m + n) s
unfolding rounds
rounds-add w t m zero s = rw add-zero
rounds-add w t m (suc n) s = rw (rounds-add w t m n s, add-suc, add_assoc)

-- one of four rounds from t on, after i of them, with the word at its place in the ring
module _ (m w : List ℕ) (n q t : ℕ) (s : State) (r : Ring m n w) (a : t % 4 ≡ 0) (b : 20 * q ≤ t) (c : t < 20 * q + 20) (d : t + 4 ≤ n) (e : n ≤ t + 16) where
  pub ring-round : (i : ℕ) (v : State) → i < 4 → v ≡ rounds (schedule m 80) t i s → round (20 * q) (get_or w (t % 16 + i) 0) v ≡ rounds (schedule m 80) t (i + 1) s
  unfolding rounds
  ring-round i v h f =
      let p : t % 16 + i ≡ (t + i) % 16 = omega arith in
      rw (add-one, p, r.1 (t + i) (omega arith) (omega arith), f)
      (sym (round-group q (t + i) (omega arith) (omega arith) (get_or (schedule m 80) (t + i) 0) (rounds (schedule m 80) t i s)))

-- the rounds from `from` to t, and then n more
pub more-rounds : (w : List ℕ) (from t n : ℕ) (h s v : State) → from ≤ t → s ≡ rounds w from (t - from) h → v ≡ rounds w t n s → v ≡ rounds w from (t + n - from) h
more-rounds w from t n h s v l e f =
    let a : from + (t - from) ≡ t = omega arith in
    let b : t - from + n ≡ t + n - from = omega arith in
    let g : rounds w t n (rounds w from (t - from) h) ≡ rounds w from (t + n - from) h = rw (a, b) at (rounds-add w from (t - from) n h) in
    f ∙ ap (rounds w t n) e ∙ g
