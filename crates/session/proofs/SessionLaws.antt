-- Laws of settings and of packets under a session: what the listed lengths are, and how long each part of a packet is. Assumes nothing.
use mathlib.Core.Bool.{Bool, true, false, ◌&&◌, ◌||◌}
use mathlib.Core.List.{List}
use mathlib.Core.Path.{◌≡◌, refl, sym, ap, ◌∙◌}
use Prim.Native.Nat.{ℕ, ◌+◌, ◌≤◌}
use native.Mathlib.Omega.{arith}
use borrow.Author.Tests.{leb-true, eqb-true}
use lib.Dec.{eqb, leb}
use lib.ListN.{length, take, drop, length-append, take-append-drop}
use lib.Seq.{length-take-le}
use Rattle.std.proofs.lemmas.Bool.{and_parts}
use Rattle.rtp.specs.Rtp.{header_length}
use Rattle.transforms.proofs.CipherLaws.{length-ciphered}
use Rattle.transforms.specs.Ciphers.{ciphered}
use Rattle.transforms.specs.declared.Integrity.{Integrity}
use Rattle.transforms.specs.declared.Integrity.TheVariants.{HmacSha1, Rccm2}
use Rattle.transforms.specs.declared.SessionKeys.{SessionKeys}
use Rattle.session.specs.Packets.{mki_bytes, ciphered_media, ciphered_control}
use Rattle.session.specs.SetUps.{tag_listed, settings_listed}
use Rattle.session.specs.Steps.{ciphered_behind}
use Rattle.session.specs.declared.Session.{Session}
use Rattle.session.specs.declared.Settings.{Settings}

-- ---- what the list of set-up says of a context's lengths
pub record Listed (s : Settings) : Type 0 where
  pub mki : s.mki_len ≤ 4
  pub least : 4 ≤ s.profile.tag_len
  pub most : s.profile.tag_len ≤ 14

tag-within : (t : Integrity) (n : ℕ) → tag_listed t n ≡ true → (4 ≤ n) × (n ≤ 14)
tag-within HmacSha1 n h = go (eqb n 4) refl h
  where
    go : (b : Bool) → eqb n 4 ≡ b → (b || eqb n 10) ≡ true → (4 ≤ n) × (n ≤ 14)
    go true e k = let z = eqb-true n 4 e in (omega arith, omega arith)
    go false e k = let z = eqb-true n 10 k in (omega arith, omega arith)
tag-within (Rccm2 rate) n h = let z = eqb-true n 14 (and_parts (leb 1 rate && leb rate 65535) (eqb n 14) h).1 in (omega arith, omega arith)

pub settings-listed : (s : Settings) → settings_listed s ≡ true → Listed s
settings-listed s h =
    let b = and_parts (leb s.mki_len 4) (tag_listed s.profile.integrity s.profile.tag_len) h in
    let t = tag-within s.profile.integrity s.profile.tag_len b.1 in
    record { mki = leb-true s.mki_len 4 b.0; least = t.0; most = t.1 }

-- the MKI, a part of the array that has it
pub mki-length : (s : Session) → s.settings.mki_len ≤ 4 → length s.settings.mki ≡ 4 → length (mki_bytes s) ≡ s.settings.mki_len
unfolding mki_bytes
mki-length s h e = length-take-le s.settings.mki_len s.settings.mki (omega arith)

-- ---- packets under the cipher are as long as the packet
pub length-behind : (s : Settings) (k : SessionKeys) (i n : ℕ) (p : List ℕ) → length (ciphered_behind s k i n p) ≡ length p
length-behind s k i n p =
    let c : List ℕ = ciphered s.profile.cipher k s.ssrc i (take n p) (drop n p) in
    length-append (take n p) c
    ∙ ap (λ (m : ℕ). length (take n p) + m) (length-ciphered s.profile.cipher k s.ssrc i (take n p) (drop n p))
    ∙ sym (length-append (take n p) (drop n p))
    ∙ ap length (take-append-drop n p)

pub length-ciphered_media : (s : Session) (p : List ℕ) (i : ℕ) → length (ciphered_media s p i) ≡ length p
unfolding ciphered_media
length-ciphered_media s p i = length-behind s.settings s.media i (header_length p) p

pub length-ciphered_control : (s : Session) (e : Bool) (p : List ℕ) (i : ℕ) → length (ciphered_control s e p i) ≡ length p
unfolding ciphered_control
length-ciphered_control s true p i = length-behind s.settings s.control i 8 p
length-ciphered_control s false p i = ap length (take-append-drop 8 p)
