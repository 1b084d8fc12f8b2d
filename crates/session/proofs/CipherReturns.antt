-- One law for each way out of the functions that put a packet under the cipher. Assumes nothing.
use mathlib.Core.List.{List, ◌++◌, append_assoc}
use mathlib.Core.Path.{◌≡◌, sym, ap, ap₂, ◌∙◌}
use Prim.Native.Nat.{ℕ, ◌+◌, ◌-◌, ◌≤◌}
use native.Mathlib.Omega.{arith}
use lib.ListN.{length, take, drop, length-drop}
use lib.Seq.{take_at, take-append-le, drop-append-le, drop-drop}
use Rattle.octets.proofs.BufferLaws.{drop-over}
use Rattle.octets.specs.Buffer.{over}
use Rattle.transforms.proofs.CipherLaws.{ciphered-from-start}
use Rattle.transforms.specs.Ciphers.{ciphered, ciphered_from}
use Rattle.transforms.specs.declared.Cipher.{Cipher}
use Rattle.transforms.specs.declared.SessionKeys.{SessionKeys}
use Rattle.session.specs.Steps.{ciphered_behind}
use Rattle.session.specs.declared.Settings.{Settings}
use Rattle.session.proofs.SessionLaws.{length-behind}

-- ---- Settings::cipher_behind: p copied over d, and what stands behind its first n bytes put under the cipher
module _ (s : Settings) (k : SessionKeys) (i n : ℕ) (p d d' : List ℕ) where
  behind-copied : n ≤ length p → d' ≡ over p d → take (length p - n) (drop n d') ≡ drop n p
  unfolding over
  behind-copied h e =
      let l : length (drop n p) ≡ length p - n = length-drop n p in
      ap (λ (x : List ℕ). take (length p - n) (drop n x)) e
      ∙ ap (take (length p - n)) (drop-append-le n p (drop (length p) d) h)
      ∙ take_at (drop n p) (drop (length p) d) (length p - n) l

  pub wrote-behind : n ≤ length p → d' ≡ over p d → (w : List ℕ)
      → w ≡ ciphered_from 0 s.profile.cipher k s.ssrc i (take n p) (take (length p - n) (drop n d'))
      → take n d' ++ (w ++ drop (length p - n) (drop n d')) ≡ over (ciphered_behind s k i n p) d
  unfolding over
  wrote-behind h e w f =
      let c : Cipher = s.profile.cipher in
      let y : List ℕ = ciphered c k s.ssrc i (take n p) (drop n p) in
      let m : length (take n p ++ y) ≡ length p = length-behind s k i n p in
      let q : n + (length p - n) ≡ length p = omega arith in
      let clear : take n d' ≡ take n p = ap (take n) e ∙ take-append-le n p (drop (length p) d) h in
      let text : w ≡ y = f ∙ ap (ciphered_from 0 c k s.ssrc i (take n p)) (behind-copied h e) ∙ ciphered-from-start c k s.ssrc i (take n p) (drop n p) in
      let rest : drop (length p - n) (drop n d') ≡ drop (length (take n p ++ y)) d =
      drop-drop (length p - n) n d' ∙ ap (λ (x : ℕ). drop x d') q ∙ ap (drop (length p)) e ∙ drop-over p d ∙ ap (λ (x : ℕ). drop x d) (sym m) in
      ap₂ ◌++◌ clear (ap₂ ◌++◌ text rest) ∙ sym (append_assoc (take n p) y (drop (length (take n p ++ y)) d))
