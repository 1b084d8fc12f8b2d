-- A list is the table of a round, with that of the last round behind it, if it has 769 words and a computed test finds in each row of each
-- entry what the rule gives.
-- Assumes nothing.
use mathlib.Core.Bool.{Bool, true, false, ◌&&◌}
use mathlib.Core.List.{List}
use mathlib.Core.Path.{◌≡◌, refl}
use Prim.Native.Nat.{ℕ, zero, suc, ◌<◌}
use native.Mathlib.Omega.{arith}
use lib.Dec.{T}
use lib.ListN.{length, drop, replicate}
use Rattle.aes.proofs.Table.{every, passed}
use Rattle.aes.specs.SBox.{s_box}
use Rattle.octets.proofs.EqualLaws.{same_true}
use Rattle.octets.specs.BigEndian.{to_bytes}
use Rattle.octets.specs.Equal.{same}
use Rattle.aes_tables.specs.Table.{products, alone, word, entry, cell, Rows, RoundTable}

both : (a b : Bool) → T (a && b) → T a × T b
both true b t = (tt, t)
both false b t = absurd t

holds : (b : Bool) → T b → b ≡ true
holds true t = refl
holds false t = absurd t

module _ (f : ℕ → ℕ → List ℕ) (d : ℕ) where
  abbrev row : ℕ → ℕ → ℕ → Bool
  row r v s = same (to_bytes 4 (word r v)) (f r s)

  -- the entry v of a byte whose substitute is s
  abbrev right : ℕ → ℕ → Bool
  right v s = row 0 v s && (row 1 v s && (row 2 v s && row 3 v s))

  -- every entry of the table
  abbrev pub all_right : List ℕ → Bool
  all_right t = every {A = ℕ} (λ x y. right (entry t d x) (s_box x)) 0 (replicate 256 0)

  module _ (v s : ℕ) where
    row_is : (r : ℕ) → T (row r v s) → to_bytes 4 (word r v) ≡ f r s
    row_is r q = same_true (to_bytes 4 (word r v)) (f r s) (holds (row r v s) q)

    each : T (right v s) → (r : ℕ) → r < 4 → to_bytes 4 (word r v) ≡ f r s
    each t zero h = row_is 0 (both (row 0 v s) (row 1 v s && (row 2 v s && row 3 v s)) t).0
    each t (suc zero) h = row_is 1 (both (row 1 v s) (row 2 v s && row 3 v s) (both (row 0 v s) (row 1 v s && (row 2 v s && row 3 v s)) t).1).0
    each t (suc (suc zero)) h =
        row_is 2 (both (row 2 v s) (row 3 v s) (both (row 1 v s) (row 2 v s && row 3 v s) (both (row 0 v s) (row 1 v s && (row 2 v s && row 3 v s)) t).1).1).0
    each t (suc (suc (suc zero))) h =
        row_is 3 (both (row 2 v s) (row 3 v s) (both (row 1 v s) (row 2 v s && row 3 v s) (both (row 0 v s) (row 1 v s && (row 2 v s && row 3 v s)) t).1).1).1
    each t (suc (suc (suc (suc r)))) h = let z : ⊥ = omega arith in absurd z

  rows : (t : List ℕ) → T (all_right t) → Rows f d t
  unfolding cell
  rows t test r x h k = each (entry t d x) (s_box x) (passed {A = ℕ} 0 (λ x y. right (entry t d x) (s_box x)) (replicate 256 0) test x k) r h

pub round-table : (t : List ℕ) → length t ≡ 769 → T (all_right products 2 t) → T (all_right alone 1 (drop 512 t)) → RoundTable t
round-table t size mixed last = record { size = size; mixed = rows products 2 t mixed; last = rows alone 1 (drop 512 t) last }
