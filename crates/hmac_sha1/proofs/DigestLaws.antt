-- Laws of the message digest: its length, its elements, and a message of which whole blocks have been hashed before. Assumes nothing.
use Rattle.std.proofs.Common.{◌≡◌, ℕ, ◌+◌, ◌%◌, ◌<◌, List, [], ◌∷◌, ◌++◌, length, sym, refl, ap, ◌∙◌, append_assoc, zero-add, arith, length-append}
use lib.ListN.{length-replicate}
use Rattle.octets.specs.BigEndian.{Bytes, to_bytes}
use Rattle.octets.proofs.BigEndianLaws.{length-to_bytes, bytes-to_bytes}
use Rattle.hmac_sha1.specs.declared.State.{State}
use Rattle.hmac_sha1.specs.Sha1.{zeros, padding, initial, compress, hash_all, digest_of, sha1}
use Rattle.hmac_sha1.specs.Parts.{sha1_after}
use Rattle.hmac_sha1.proofs.MessageLaws.{hash-first}

-- ---- twenty bytes

length-digest_of : (h : State) → length (digest_of h) ≡ 20
unfolding digest_of
length-digest_of h = refl

bytes-append : (a b : List ℕ) → Bytes a → Bytes b → Bytes (a ++ b)
bytes-append [] b p q = q
bytes-append (x ∷ a) b p q = (p.0, bytes-append a b p.1 q)

bytes-digest_of : (h : State) → Bytes (digest_of h)
unfolding digest_of
bytes-digest_of h =
    let a : List ℕ = to_bytes 4 h.a in
    let b : List ℕ = a ++ to_bytes 4 h.b in
    let c : List ℕ = b ++ to_bytes 4 h.c in
    let d : List ℕ = c ++ to_bytes 4 h.d in
    next d h.e (next c h.d (next b h.c (next a h.b (bytes-to_bytes 4 h.a))))
  where
    next : (l : List ℕ) (v : ℕ) → Bytes l → Bytes (l ++ to_bytes 4 v)
    next l v p = bytes-append l (to_bytes 4 v) p (bytes-to_bytes 4 v)

pub length-sha1 : (m : List ℕ) → length (sha1 m) ≡ 20
unfolding sha1
length-sha1 m = length-digest_of (hash_all initial (m ++ padding (length m)))

pub bytes-sha1 : (m : List ℕ) → Bytes (sha1 m)
unfolding sha1
bytes-sha1 m = bytes-digest_of (hash_all initial (m ++ padding (length m)))

pub length-sha1_after : (h : State) (n : ℕ) (m : List ℕ) → length (sha1_after h n m) ≡ 20
unfolding sha1_after
length-sha1_after h n m = length-digest_of (hash_all h (m ++ padding (n + length m)))

pub bytes-sha1_after : (h : State) (n : ℕ) (m : List ℕ) → Bytes (sha1_after h n m)
unfolding sha1_after
bytes-sha1_after h n m = bytes-digest_of (hash_all h (m ++ padding (n + length m)))

-- ---- from the start, and behind a first block

pub sha1-whole : (m : List ℕ) → sha1_after initial 0 m ≡ sha1 m
unfolding sha1 sha1_after
sha1-whole m = rw zero-add

pub sha1-behind : (p m : List ℕ) → length p ≡ 64 → sha1_after (compress initial p) 64 m ≡ sha1 (p ++ m)
unfolding sha1 sha1_after
sha1-behind p m l =
    let n : 64 + length m ≡ length (p ++ m) = omega (arith, length-append p m) in
    ap digest_of (sym (hash-first initial p (m ++ padding (64 + length m)) l)
    ∙ ap (hash_all initial) (sym (append_assoc p m (padding (64 + length m))) ∙ ap (λ (k : ℕ). (p ++ m) ++ padding k) n))

-- ---- the padding is the standard's: z is a solution, and no smaller one is (5.1.1, in bytes)

pub zeros-solve : (n : ℕ) → (n + 1 + zeros n) % 64 ≡ 56
zeros-solve n = omega arith

pub zeros-least : (n z : ℕ) → z < zeros n → (n + 1 + z) % 64 ≡ 56 → ⊥
zeros-least n z l e = omega arith

-- a padded message is whole blocks
pub padded-whole : (m : List ℕ) → length (m ++ padding (length m)) % 64 ≡ 0
unfolding padding
padded-whole m = simp (length-append, length-replicate, length-to_bytes) (omega arith)
