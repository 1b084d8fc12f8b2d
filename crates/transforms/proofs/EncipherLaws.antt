-- Texts under the ciphers as the code has them. Assumes nothing.
use mathlib.Core.List.{List}
use mathlib.Core.Path.{◌≡◌, sym, ap, ◌∙◌}
use Prim.Native.Nat.{ℕ, ◌+◌}
use lib.ListN.{length, drop}
use Rattle.octets.specs.BigEndian.{to_bytes, from_bytes}
use Rattle.octets.specs.Xor.{xors}
use Rattle.transforms.specs.Ciphers.{stream, ciphered_from}
use Rattle.transforms.specs.CounterMode.{initial_counter}
use Rattle.transforms.specs.Steps.{segment}
use Rattle.transforms.specs.declared.Cipher.{Cipher}
use Rattle.transforms.specs.declared.Cipher.TheVariants.{Aes, Null}
use Rattle.transforms.specs.declared.SessionKeys.{SessionKeys}
use Rattle.transforms.proofs.CipherLaws.{null-text}
use Rattle.transforms.proofs.CounterLaws.{words, counted}

pub counter-mode : (k : SessionKeys) (ssrc index start : ℕ) (clear text text' : List ℕ) (a b c d : ℕ)
    → words a b c d ≡ to_bytes 16 (initial_counter (from_bytes k.salt) ssrc index)
    → text' ≡ xors text (segment k.round (from_bytes (words a b c d)) start (length text)) → text' ≡ ciphered_from start Aes k ssrc index clear text
unfolding ciphered_from stream
counter-mode k ssrc index start clear text text' a b c d i p =
    p ∙ ap (λ (l : List ℕ). xors text (drop start l))
    (counted k.round a b c d (initial_counter (from_bytes k.salt) ssrc index) (start + length text) i)

-- ---- which cipher

module _ (z : Cipher) (k : SessionKeys) (ssrc index start : ℕ) (clear text text' : List ℕ) where
  pub aes-text : z ≡ Aes → text' ≡ ciphered_from start Aes k ssrc index clear text → text' ≡ ciphered_from start z k ssrc index clear text
  aes-text e p = p ∙ ap (λ (c : Cipher). ciphered_from start c k ssrc index clear text) (sym e)

  pub no_text : z ≡ Null → text' ≡ text → text' ≡ ciphered_from start z k ssrc index clear text
  no_text e p =
      p ∙ sym (null-text k ssrc index clear start text) ∙ ap (λ (c : Cipher). ciphered_from start c k ssrc index clear text) (sym e)
