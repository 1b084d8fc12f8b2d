-- Laws of the message schedule: its words, and the ring that holds sixteen of them. Assumes nothing.
use Rattle.std.proofs.Common.{◌≡◌, ℕ, zero, suc, ◌+◌, ◌-◌, ◌%◌, ◌<◌, ◌≤◌, Bool, true, false, cond, eqb, leb, List, [], length, get_or, take, set, sym, refl, ap, ◌∙◌, add-zero, add-suc, add-one, arith, length-append, length-set, take_all, get_or-set_other, get_or-take, get_or-set_same, eqb-true, le-leb}
use borrow.Author.Tests.{lt-leb, eqb-false}
use lib.Seq.{take-append-le, get_or_at}
use Rattle.hmac_sha1.specs.Sha1.{word_at, mixed, schedule}
use Rattle.hmac_sha1.specs.Parts.{Ring, mixed_in}

-- ---- W_t of a schedule of n words is the standard's, for t < 16 and from 16 on

length-schedule : (m : List ℕ) (n : ℕ) → length (schedule m n) ≡ n
unfolding schedule
length-schedule m zero = refl
length-schedule m (suc n) = length-append (schedule m n) _ ∙ rw (length-schedule m n, add-one)

schedule-front : (m : List ℕ) (t k : ℕ) → take t (schedule m (t + k)) ≡ schedule m t
unfolding schedule
schedule-front m t zero = rw add-zero (take_all t (schedule m t) (omega (arith, length-schedule m t)))
schedule-front m t (suc k) =
    rw add-suc (take-append-le t (schedule m (t + k)) _ (omega (arith, length-schedule m (t + k))) ∙ schedule-front m t k)

mixed-take : (w : List ℕ) (t : ℕ) → 16 ≤ t → mixed (take t w) t ≡ mixed w t
mixed-take w t h =
    rw (get_or-take t w (t - 3) 0 (omega arith), get_or-take t w (t - 8) 0 (omega arith), get_or-take t w (t - 14) 0 (omega arith), get_or-take t w (t - 16) 0 (omega arith))

module _ (m : List ℕ) (n t : ℕ) (h : t < n) where
  front : take t (schedule m n) ≡ schedule m t
  front =
      let e : t + (n - t) ≡ n = omega arith in
      rw e at (schedule-front m t (n - t))

  word : get_or (schedule m n) t 0 ≡ cond (leb t 15) (word_at m t) (mixed (schedule m t) t)
  unfolding schedule
  word =
      let e : suc t + (n - suc t) ≡ n = omega arith in
      let f : take (suc t) (schedule m n) ≡ schedule m (suc t) = rw e at (schedule-front m (suc t) (n - suc t)) in
      sym (get_or-take (suc t) (schedule m n) t 0 (omega arith)) ∙ ap (λ (l : List ℕ). get_or l t 0) f ∙ get_or_at (schedule m t) _ [] 0 t (length-schedule m t)

  word_first : t < 16 → get_or (schedule m n) t 0 ≡ word_at m t
  word_first l = word ∙ rw (le-leb t 15 (omega arith))

  word-later : 16 ≤ t → get_or (schedule m n) t 0 ≡ mixed (schedule m n) t
  word-later l = word ∙ rw (lt-leb t 15 (omega arith), ← front) (mixed-take (schedule m n) t l)

-- ---- the ring: one word more

-- p, where W_t goes, is t mod 16. In the sixteen words before W_{t+1} no other stands there.
module _ (m w : List ℕ) (t p v : ℕ) (at : p ≡ t % 16) (r : Ring m t w) where
  place : p < length w
  place = omega (arith, r.0)

  put : v ≡ get_or (schedule m 80) t 0 → (k : ℕ) → k < t + 1 → t + 1 ≤ k + 16 → get_or (set w p v) (k % 16) 0 ≡ get_or (schedule m 80) k 0
  put e k h l = cases (eqb k t) refl
    where
      cases : (b : Bool) → eqb k t ≡ b → get_or (set w p v) (k % 16) 0 ≡ get_or (schedule m 80) k 0
      cases true c =
          let f : k ≡ t = eqb-true k t c in
          rw (f, ← at) (get_or-set_same w p v 0 place ∙ e)
      cases false c =
          let f : k ≡ t → ⊥ = eqb-false k t c in
          get_or-set_other w p (k % 16) v 0 (λ d. omega arith) ∙ r.1 k (omega arith) (omega arith)

  ring-put : v ≡ get_or (schedule m 80) t 0 → Ring m (t + 1) (set w p v)
  ring-put e = (length-set w p v ∙ r.0, put e)

  pub ring-load : t < 16 → v ≡ word_at m t → Ring m (t + 1) (set w p v)
  ring-load l e = ring-put (e ∙ sym (word_first m 80 t (omega arith) l))

  mixed-ring : 16 ≤ t → t < 80 → mixed_in w p ≡ mixed (schedule m 80) t
  mixed-ring l h =
      let a : (p + 13) % 16 ≡ (t - 3) % 16 = omega arith in
      let b : (p + 8) % 16 ≡ (t - 8) % 16 = omega arith in
      let c : (p + 2) % 16 ≡ (t - 14) % 16 = omega arith in
      let d : p ≡ (t - 16) % 16 = omega arith in
      rw (a, b, c, d, r.1 (t - 3) (omega arith) (omega arith), r.1 (t - 8) (omega arith) (omega arith), r.1 (t - 14) (omega arith) (omega arith), r.1 (t - 16) (omega arith) (omega arith))

  pub ring-mixed : 16 ≤ t → t < 80 → v ≡ mixed_in w p → Ring m (t + 1) (set w p v)
  ring-mixed l h e = ring-put (e ∙ mixed-ring l h ∙ sym (word-later m 80 t h l))
