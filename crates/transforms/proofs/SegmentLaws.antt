-- The keystream segment XORed into a buffer, series by series and block by block. Assumes nothing.
use mathlib.Core.List.{List, ◌++◌}
use mathlib.Core.Path.{◌≡◌, refl, sym, ap, ap₂, ◌∙◌}
use Prim.Native.Nat.{ℕ, ◌+◌, ◌-◌, ◌*◌, ◌/◌, ◌%◌, ◌^◌, ◌<◌, ◌≤◌, min}
use native.Mathlib.Nat.{zero-add, le_refl}
use native.Mathlib.Omega.{arith}
use lib.ListN.{length, take, drop, length-drop}
use lib.Seq.{take_at, length-take-le, drop-drop}
use Rattle.std.proofs.lemmas.List.{drop-take}
use Rattle.octets.proofs.BigEndianLaws.{to_bytes-low}
use Rattle.octets.specs.BigEndian.{to_bytes, from_bytes}
use Rattle.octets.specs.Xor.{xors}
use Rattle.transforms.specs.CounterMode.{keystream_block, keystream}
use Rattle.transforms.specs.Steps.{segment, xored_at}
use Rattle.transforms.proofs.CounterLaws.{words, counted}
use Rattle.transforms.proofs.KeystreamLaws.{length-block, length-keystream, keystream-pair, keystream-behind, take-keystream}
use Rattle.transforms.proofs.PartLaws.{part-take}
use Rattle.transforms.proofs.XoredLaws.{xored-same, xored-behind, xored-all, series-in}

module _ (w : List ℕ) (iv start : ℕ) where
  pub length-segment : (n : ℕ) → length (segment w iv start n) ≡ n
  length-segment n = omega (arith, length-drop start (keystream w iv (start + n)), length-keystream w iv (start + n))

  -- n bytes of it from at on
  part : (n at l : ℕ) → take n (drop at (segment w iv start l)) ≡ take n (drop (start + at) (keystream w iv (start + l)))
  part n at l = ap (take n) (drop-drop at start (keystream w iv (start + l)))

  -- from byte p = start + at on, in the block of that byte and the next one
  pub pair-part : (out out' a b : List ℕ) (at n : ℕ) → (start + at) % 16 + n ≤ 32 → at + n ≤ length out
      → a ≡ keystream_block w iv ((start + at) / 16) → b ≡ keystream_block w iv ((start + at) / 16 + 1)
      → out' ≡ xored_at at n (drop ((start + at) % 16) (a ++ b)) out → out' ≡ xored_at at n (drop at (segment w iv start (length out))) out
  pair-part out out' a b at n h k ea eb e =
      let p : ℕ = start + at in
      let j : ℕ = p / 16 in
      let q : 16 * j + p % 16 ≡ p = omega arith in
      e ∙ xored-same at n (drop (p % 16) (a ++ b)) (drop at (segment w iv start (length out))) out
      (ap₂ (λ (x y : List ℕ). take n (drop (p % 16) (x ++ y))) ea eb
      ∙ sym (keystream-pair w iv (start + length out) j (p % 16) n h (omega arith))
      ∙ ap (λ (i : ℕ). take n (drop i (keystream w iv (start + length out)))) q
      ∙ sym (part n at (length out)))

  -- the same in that block alone
  pub block-part : (out out' a : List ℕ) (at n : ℕ) → (start + at) % 16 + n ≤ 16 → at + n ≤ length out → a ≡ keystream_block w iv ((start + at) / 16)
      → out' ≡ xored_at at n (drop ((start + at) % 16) a) out → out' ≡ xored_at at n (drop at (segment w iv start (length out))) out
  block-part out out' a at n h k ea e =
      let o : ℕ = (start + at) % 16 in
      let b : List ℕ = keystream_block w iv ((start + at) / 16 + 1) in
      let l : length a ≡ 16 = ap length ea ∙ length-block w iv ((start + at) / 16) in
      let both : take n (drop o a) ≡ take n (drop o (a ++ b)) =
      ap (λ (x : List ℕ). take n (drop o x)) (sym (take_at a b 16 l)) ∙ part-take n o 16 (a ++ b) h in
      pair-part out out' a b at n (omega arith) k ea refl (e ∙ xored-same at n (drop o a) (drop o (a ++ b)) out both)

  -- from byte p = start + at on, in the series of that byte: the words are the counter that stands there
  pub series-part : (out x : List ℕ) (a b c d at n : ℕ) → at < length out
      → words a b c d ≡ to_bytes 16 ((iv + (start + at) / 4096 * 256) % 2 ^ 128)
      → n ≡ min (4096 - (start + at) % 4096) (length out - at)
      → x ≡ xors (take (at + n - at) (drop at out)) (segment w (from_bytes (words a b c d)) ((start + at) % 4096) (length (take (at + n - at) (drop at out))))
      → take at out ++ (x ++ drop (at + n - at) (drop at out)) ≡ xored_at at (at + n - at) (drop at (segment w iv start (length out))) out
  series-part out x a b c d at n h e m f =
      let p : ℕ = start + at in
      let o : ℕ = p % 4096 in
      let j : ℕ = p / 4096 * 256 in
      let i : ℕ = at + n - at in
      let z : List ℕ = keystream w iv (start + length out) in
      let r : ℕ = start + length out - 16 * j in
      let y : List ℕ = keystream w (iv + j) r in
      let q : 16 * j + o ≡ p = omega arith in
      let k : start + length out ≡ 16 * j + r = omega arith in
      let u : length (take i (drop at out)) ≡ i = length-take-le i (drop at out) (omega (arith, length-drop at out)) in
      let behind : drop (16 * j) z ≡ y = ap (λ (v : ℕ). drop (16 * j) (keystream w iv v)) k ∙ keystream-behind w iv j r in
      let here : take i (drop p z) ≡ segment w (iv + j) o i =
      ap (λ (v : ℕ). take i (drop v z)) (sym q)
      ∙ ap (take i) (sym (drop-drop o (16 * j) z) ∙ ap (drop o) behind)
      ∙ sym (drop-take o i y)
      ∙ ap (drop o) (take-keystream w (iv + j) (o + i) r (omega arith)) in
      let there : segment w (from_bytes (words a b c d)) o (length (take i (drop at out))) ≡ take i (drop at (segment w iv start (length out))) =
      ap (segment w (from_bytes (words a b c d)) o) u
      ∙ ap (drop o) (counted w a b c d (iv + j) (o + i) (e ∙ to_bytes-low 16 16 (iv + j) (le_refl 16)))
      ∙ sym here
      ∙ sym (part i at (length out)) in
      series-in out (drop at (segment w iv start (length out))) x at i (omega arith)
      (omega (arith, length-drop at (segment w iv start (length out)), length-segment (length out))) (f ∙ ap (xors (take i (drop at out))) there)

  -- one turn of the loop
  pub next-part : (out₀ out out' : List ℕ) (at to : ℕ) → at < to → to ≤ length out → length out ≡ length out₀
      → out ≡ xored_at 0 at (segment w iv start (length out₀)) out₀
      → out' ≡ xored_at at (to - at) (drop at (segment w iv start (length out))) out
      → out' ≡ xored_at 0 to (segment w iv start (length out₀)) out₀
  next-part out₀ out out' at to h k l p q =
      let s : List ℕ = segment w iv start (length out₀) in
      let e : at + (to - at) ≡ to = omega arith in
      q ∙ ap₂ (λ (n : ℕ) (x : List ℕ). xored_at at (to - at) (drop at (segment w iv start n)) x) l p
      ∙ ap (λ (i : ℕ). xored_at i (to - at) (drop at s) (xored_at 0 at s out₀)) (sym (zero-add at))
      ∙ xored-behind 0 at (to - at) s out₀ (omega (arith, length-segment (length out₀))) (omega arith)
      ∙ ap (λ (i : ℕ). xored_at 0 i s out₀) e

  -- its end
  pub all-parts : (out₀ out : List ℕ) (at : ℕ) → at ≡ length out₀ → out ≡ xored_at 0 at (segment w iv start (length out₀)) out₀
      → out ≡ xors out₀ (segment w iv start (length out₀))
  all-parts out₀ out at e p = p ∙ xored-all at (segment w iv start (length out₀)) out₀ e (omega (arith, length-segment (length out₀)))
