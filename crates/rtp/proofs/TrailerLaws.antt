-- Laws of the end of a protected packet: MKI and tag, and the Authenticated Portion before them. Assumes nothing.
use mathlib.Core.Path.{◌≡◌, refl, sym, ◌∙◌}
use mathlib.Core.List.{List, ◌++◌, append_assoc}
use Prim.Native.Nat.{ℕ, ◌+◌, ◌-◌, ◌≤◌}
use native.Mathlib.Omega.{arith}
use lib.ListN.{length, take, drop, length-append, length-take, take-append-drop}
use lib.Seq.{take-append_seam, drop-append_seam, take-add}
use Rattle.octets.specs.BigEndian.{Bytes}
use Rattle.rtp.specs.Protected.{authenticated_portion, mki_of, tag_of}
use Rattle.rtp.proofs.FieldLaws.{bytes_take}

-- ---- a packet put together from f, an MKI and a tag
module _ (f m t : List ℕ) (n : ℕ) (e : length t ≡ n) where
  whole : length (f ++ m ++ t) ≡ length f + length m + n
  whole = length-append (f ++ m) t ∙ omega (arith, length-append f m)

  pub mki-at : length (f ++ m ++ t) - (length m + n) ≡ length f
  mki-at = omega (arith, whole)

  pub tag_at : length (f ++ m ++ t) - n ≡ length f + length m
  tag_at = omega (arith, whole)

  pub portion-parts : authenticated_portion (length m) n (f ++ m ++ t) ≡ f
  unfolding authenticated_portion
  portion-parts = rw (mki-at, append_assoc f m t) (take-append_seam f (m ++ t))

  pub mki-parts : mki_of (length m) n (f ++ m ++ t) ≡ m
  unfolding mki_of
  mki-parts = rw (mki-at, append_assoc f m t, drop-append_seam f (m ++ t)) (take-append_seam m t)

  pub tag-parts : tag_of n (f ++ m ++ t) ≡ t
  unfolding tag_of
  tag-parts =
      let k : length (f ++ m ++ t) - n ≡ length (f ++ m) = tag_at ∙ sym (length-append f m) in
      rw k (drop-append_seam (f ++ m) t)

-- ---- any packet of bytes b
pub parts_whole : (m n : ℕ) (b : List ℕ) → m + n ≤ length b → authenticated_portion m n b ++ mki_of m n b ++ tag_of n b ≡ b
unfolding authenticated_portion mki_of tag_of
parts_whole m n b h =
    let k : ℕ = length b - (m + n) in
    let e : length b - n ≡ k + m = omega arith in
    rw (e, ← take-add k m b) (take-append-drop (k + m) b)

pub portion-length : (m n : ℕ) (b : List ℕ) → length (authenticated_portion m n b) ≡ length b - (m + n)
unfolding authenticated_portion
portion-length m n b = length-take (length b - (m + n)) b ∙ omega arith

pub portion-bytes : (m n : ℕ) (b : List ℕ) → Bytes b → Bytes (authenticated_portion m n b)
unfolding authenticated_portion
portion-bytes m n b h = bytes_take (length b - (m + n)) b h

-- ---- MKI and tag found at places k and j
pub record Trailing (m t : ℕ) (b : List ℕ) (k j : ℕ) : Type 0 where
  pub mki : k + m ≡ j
  pub tag : j + t ≡ length b
  pub portion-part : authenticated_portion m t b ≡ take k b
  pub mki-part : mki_of m t b ≡ take (j - k) (drop k b)
  pub tag-part : tag_of t b ≡ drop j b

pub trailing : (m t : ℕ) (b : List ℕ) → m + t ≤ length b → Trailing m t b (length b - (m + t)) (length b - t)
unfolding authenticated_portion mki_of tag_of
trailing m t b h =
    let e : length b - t - (length b - (m + t)) ≡ m = omega arith in
    record { mki = omega arith; tag = omega arith; portion-part = refl; mki-part = rw e; tag-part = refl }
