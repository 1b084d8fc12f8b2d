-- A word of n + n bytes in a list, put together from two of n, and taken apart into them. Stated once over n. Assumes nothing.
use mathlib.Core.List.{List, [], ◌∷◌, ◌++◌}
use mathlib.Core.Path.{◌≡◌, sym, ap, ap₂, ◌∙◌}
use Prim.Native.Nat.{ℕ, ◌+◌, ◌*◌, ◌/◌, ◌%◌, ◌^◌, ◌<◌, ◌≤◌}
use native.Mathlib.Nat.{mod-eq_of_lt, le_refl}
use native.Mathlib.Omega.{arith}
use lib.Bits.{bit_or, or_shifted}
use lib.ListN.{length, take, drop, get_or, length-drop}
use lib.Pow.{shl_exact}
use lib.Seq.{take-add, drop-drop, drop-cons, length-take-le}
use Rattle.octets.specs.BigEndian.{to_bytes, from_bytes}
use Rattle.octets.specs.Buffer.{over_at}
use Rattle.octets.proofs.BigEndianLaws.{to_bytes-append, to_bytes-join, to_bytes-low, from_bytes-append, length-to_bytes}
use Rattle.octets.proofs.BufferLaws.{over_at-append}

-- v is the word that the n bytes of s from at spell
abbrev pub Word : ℕ → List ℕ → ℕ → ℕ → Type 0
Word n s at v = (v ≡ from_bytes (take n (drop at s))) × (to_bytes n v ≡ take n (drop at s))

pub one_byte : (s : List ℕ) (at : ℕ) → at < length s → get_or s at 0 < 2 ^ 8 → Word 1 s at (get_or s at 0)
one_byte s at h b =
    let e : take 1 (drop at s) ≡ get_or s at 0 ∷ [] = ap (take 1) (drop-cons s at 0 h) in
    rw e (omega arith, ap (λ (x : ℕ). x ∷ []) (mod-eq_of_lt b))

module _ (n : ℕ) where
  two-parts : (s : List ℕ) (at : ℕ) → take (n + n) (drop at s) ≡ take n (drop at s) ++ take n (drop (at + n) s)
  two-parts s at = take-add n n (drop at s) ∙ ap (λ (l : List ℕ). take n (drop at s) ++ take n l) (drop-drop n at s)

  -- the upper half above the lower, in a word that holds both
  shifted-or : (h l : ℕ) → h < 2 ^ (8 * n) → l < 2 ^ (8 * n) → bit_or ((h * 2 ^ (8 * n)) % 2 ^ (8 * (n + n))) l ≡ h * 2 ^ (8 * n) + l
  shifted-or h l b c =
      ap (λ (k : ℕ). bit_or k l) (shl_exact (8 * n) (8 * n) (8 * (n + n)) b (omega arith)) ∙ or_shifted h (8 * n) l c

  pub word-join : (s : List ℕ) (at h l : ℕ) → at + (n + n) ≤ length s → h < 2 ^ (8 * n) → l < 2 ^ (8 * n) → Word n s at h → Word n s (at + n) l
      → Word (n + n) s at (bit_or ((h * 2 ^ (8 * n)) % 2 ^ (8 * (n + n))) l)
  word-join s at h l q b c wh wl =
      let e : length (take n (drop (at + n) s)) ≡ n = length-take-le n (drop (at + n) s) (omega (arith, length-drop (at + n) s)) in
      rw (shifted-or h l b c) (
        ap₂ (λ (x y : ℕ). x * 2 ^ (8 * n) + y) wh.0 wl.0
            ∙ ap (λ (k : ℕ). from_bytes (take n (drop at s)) * 2 ^ (8 * k) + from_bytes (take n (drop (at + n) s))) (sym e)
            ∙ sym (ap from_bytes (two-parts s at) ∙ from_bytes-append (take n (drop at s)) (take n (drop (at + n) s))),
        to_bytes-join n n h l c ∙ ap₂ ◌++◌ wh.1 wl.1 ∙ sym (two-parts s at),
      )

  -- the upper half stored, and then the lower
  pub word_split : (d e f : List ℕ) (at v : ℕ) → at + (n + n) ≤ length d → e ≡ over_at at (to_bytes n (v / 2 ^ (8 * n))) d
      → f ≡ over_at (at + n) (to_bytes n (v % 2 ^ (8 * n))) e → f ≡ over_at at (to_bytes (n + n) v) d
  word_split d e f at v q p r =
      r ∙ ap₂ (λ (l m : List ℕ). over_at (at + n) l m) (to_bytes-low n n v (le_refl n)) p
      ∙ over_at-append at n (to_bytes n (v / 2 ^ (8 * n))) (to_bytes n v) d (sym (length-to_bytes n (v / 2 ^ (8 * n)))) (omega arith)
      ∙ ap (λ (l : List ℕ). over_at at l d) (sym (to_bytes-append n n v))
