-- What the layers above cite of the cipher. Assumes nothing.
use mathlib.Core.List.{List}
use mathlib.Core.Path.{◌≡◌, refl, sym, ap, ap₂, ◌∙◌}
use Prim.Native.Nat.{ℕ, suc, ◌+◌, ◌-◌, ◌≤◌}
use native.Mathlib.Omega.{arith}
use lib.ListN.{length}
use Rattle.aes.specs.Aes.{aes, round_count}
use Rattle.aes.specs.Cipher.{add_round_key, round_key, round_of, last_round_of, rounds, cipher}
use Rattle.aes.specs.KeyExpansion.{key_expansion}

-- on the words of an expanded key the cipher is AES
pub cipher-is-aes : (nk : ℕ) (key w s : List ℕ) → w ≡ key_expansion nk key → cipher w (round_count nk) s ≡ aes nk key s
unfolding aes
cipher-is-aes nk key w s e = ap (λ (l : List ℕ). cipher l (round_count nk) s) e

-- a block comes out, whatever went in
pub length-cipher : (w : List ℕ) (nr : ℕ) (s : List ℕ) → length (cipher w nr s) ≡ 16
unfolding cipher
length-cipher w nr s = refl

-- ---- the loop over the rounds, from the state z before round 1

-- one turn: x has gone through rounds 1 to i - 1
pub next-round : (w z : List ℕ) (i : ℕ) {x k r : List ℕ} → 1 ≤ i → x ≡ rounds w (i - 1) z → k ≡ round_key w i → r ≡ round_of x k → r ≡ rounds w (i + 1 - 1) z
unfolding rounds
next-round w z i p e f g =
    let m : i ≡ suc (i - 1) = omega arith in
    let n : i + 1 - 1 ≡ suc (i - 1) = omega arith in
    g ∙ ap₂ round_of e f ∙ ap (λ (j : ℕ). round_of (rounds w (i - 1) z) (round_key w j)) m ∙ sym (ap (λ (j : ℕ). rounds w j z) n)

-- its end
pub all-rounds : (w s : List ℕ) (nr i : ℕ) {x k r : List ℕ} → i ≡ nr → x ≡ rounds w (i - 1) (add_round_key s (round_key w 0)) → k ≡ round_key w nr
    → r ≡ last_round_of x k → r ≡ cipher w nr s
unfolding cipher
all-rounds w s nr i e q f g =
    g ∙ ap₂ last_round_of q f ∙ ap (λ (n : ℕ). last_round_of (rounds w (n - 1) (add_round_key s (round_key w 0))) (round_key w nr)) e
