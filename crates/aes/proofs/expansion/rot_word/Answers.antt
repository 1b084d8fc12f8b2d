use mathlib.Core.Path.{◌≡◌, ap, ◌∙◌}
use Prim.Native.Nat.{ℕ, ◌*◌, ◌/◌, ◌%◌, ◌^◌, ◌<◌}
use native.Mathlib.Omega.{arith}
use borrow.Author.Rules.{rules}
use lib.Bits.{bit_or}
use lib.Pow.{mod-pow-add}
use Rattle.std.proofs.lemmas.Nat.{or_shifted}
use Rattle.aes.specs.KeyExpansion.{rot_word}
use Rattle.aes.proofs.expansion.rot_word.Goals as goal

rotated : (w : ℕ) → w < 2 ^ 32 → bit_or (w * 2 ^ 8 % 2 ^ 32) (w / 2 ^ 24) ≡ rot_word w
rotated w h =
    let e : w * 2 ^ 8 % 2 ^ 32 ≡ w % 2 ^ 24 * 2 ^ 8 = omega arith in
    let k : w / 2 ^ 24 < 2 ^ 8 = omega arith in
    ap (λ (n : ℕ). bit_or n (w / 2 ^ 24)) e ∙ or_shifted (w % 2 ^ 24) 8 (w / 2 ^ 24) k ∙ omega (arith, mod-pow-add w 8 16, mod-pow-add w 8 8)

pub returns : goal.returns
returns c = c.rotate_left.ensures ∙ rotated c.args.w (search rules)
