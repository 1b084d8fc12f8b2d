-- The two ciphers agree on every block, key and number of rounds: aes::encrypt_block and this crate's encrypt_block ensure the same of their
-- answers, and that leaves one answer. Assumes nothing.
use mathlib.Core.List.{List}
use mathlib.Core.Path.{◌≡◌, sym, ap, ◌∙◌}
use Prim.Native.Nat.{ℕ, ◌^◌, ◌<◌}
use native.Mathlib.Nat.{mod-eq_of_lt}
use lib.ListN.{take, drop}
use Rattle.aes.specs.Cipher.{cipher}
use Rattle.aes.specs.Columns.{block}
use Rattle.aes.specs.declared.State.{State}
use Rattle.octets.proofs.BigEndianLaws.{from-to_bytes}
use Rattle.octets.specs.BigEndian.{to_bytes, from_bytes}
use Rattle.aes_tables.proofs.RoundLaws.{same-state}

-- the columns are words, as u32 has it
abbrev pub Words : State → Type 0
Words s = (s.c0 < 2 ^ 32) × (s.c1 < 2 ^ 32) × (s.c2 < 2 ^ 32) × (s.c3 < 2 ^ 32)

word : (a b : ℕ) → a < 2 ^ 32 → b < 2 ^ 32 → to_bytes 4 a ≡ to_bytes 4 b → a ≡ b
word a b p q e = sym (mod-eq_of_lt p) ∙ sym (from-to_bytes 4 a) ∙ ap from_bytes e ∙ from-to_bytes 4 b ∙ mod-eq_of_lt q

one_state : (a b : State) → Words a → Words b → block a ≡ block b → a ≡ b
one_state a b p q e =
    let e0 : to_bytes 4 a.c0 ≡ to_bytes 4 b.c0 = ap (take 4) e in
    let e1 : to_bytes 4 a.c1 ≡ to_bytes 4 b.c1 = ap (λ (l : List ℕ). take 4 (drop 4 l)) e in
    let e2 : to_bytes 4 a.c2 ≡ to_bytes 4 b.c2 = ap (λ (l : List ℕ). take 4 (drop 8 l)) e in
    let e3 : to_bytes 4 a.c3 ≡ to_bytes 4 b.c3 = ap (λ (l : List ℕ). take 4 (drop 12 l)) e in
    let w0 : a.c0 ≡ b.c0 = word a.c0 b.c0 p.0 q.0 e0 in
    let w1 : a.c1 ≡ b.c1 = word a.c1 b.c1 p.1 q.1 e1 in
    let w2 : a.c2 ≡ b.c2 = word a.c2 b.c2 p.2 q.2 e2 in
    let w3 : a.c3 ≡ b.c3 = word a.c3 b.c3 p.3 q.3 e3 in
    same-state w0 w1 w2 w3

pub ciphers-agree : (w : List ℕ) (nr : ℕ) (s plain quick : State) → Words plain → Words quick
    → block plain ≡ cipher w nr (block s) → block quick ≡ cipher w nr (block s) → plain ≡ quick
ciphers-agree w nr s plain quick p q e f = one_state plain quick p q (e ∙ sym f)
