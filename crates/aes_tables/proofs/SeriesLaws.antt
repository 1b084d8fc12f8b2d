-- Blocks that differ in their last byte alone: what their front makes of each is two rounds. Assumes nothing.
use mathlib.Core.List.{List, ◌∷◌, map}
use mathlib.Core.Path.{◌≡◌, refl, sym, ap, ap₂, ◌∙◌, subst}
use Prim.Native.Nat.{ℕ, zero, suc, ◌+◌, ◌-◌, ◌/◌, ◌%◌, ◌^◌, ◌≤◌}
use native.Mathlib.Nat.{add-zero, add_assoc}
use native.Mathlib.Omega.{arith}
use lib.Bits.{bit_xor}
use lib.ListN.{get_or}
use Rattle.std.specs.List.{range_with_len}
use Rattle.aes.proofs.StateLaws.{added-to}
use Rattle.aes.specs.Cipher.{add_round_key, round_key, round_of, last_round_of, rounds, cipher}
use Rattle.aes.specs.Columns.{block, state, key_state, added_to}
use Rattle.aes.specs.declared.State.{State}
use Rattle.octets.proofs.BigEndianLaws.{byte-xor, byte-up}
use Rattle.octets.proofs.XorLaws.{xor-twice}
use Rattle.octets.specs.BigEndian.{byte}
use Rattle.aes_tables.specs.Table.{cell, RoundTable}
use Rattle.aes_tables.specs.Rounds.{row_by, round_by}
use Rattle.aes_tables.specs.Series.{ending, spread_by, front_by, after_two, FrontOf}
use Rattle.aes_tables.specs.declared.Front.{Front}
use Rattle.aes_tables.proofs.RoundLaws.{swap, same-state, round_by_lem, maps}

-- ---- one term of a column for another

second-last : (k p q r s : ℕ) → bit_xor (bit_xor (bit_xor (bit_xor k p) q) r) s ≡ bit_xor (bit_xor (bit_xor (bit_xor k q) r) s) p
second-last k p q r s =
    ap (λ (x : ℕ). bit_xor (bit_xor x r) s) (swap k p q) ∙ ap (λ (x : ℕ). bit_xor x s) (swap (bit_xor k q) p r) ∙ swap (bit_xor (bit_xor k q) r) p s

exchange : (k p u q r s : ℕ) → bit_xor (bit_xor (bit_xor (bit_xor (bit_xor (bit_xor k p) q) r) s) p) u ≡ bit_xor (bit_xor (bit_xor (bit_xor k u) q) r) s
exchange k p u q r s =
    ap (λ (x : ℕ). bit_xor (bit_xor x p) u) (second-last k p q r s)
    ∙ ap (λ (x : ℕ). bit_xor x u) (xor-twice (bit_xor (bit_xor (bit_xor k q) r) s) p)
    ∙ sym (second-last k u q r s)

-- ---- the front, on states

-- round 2 with u for its first column
other-first : (t : List ℕ) (p u b c d : ℕ) (m : State)
    → added_to (added_to (round_by t 2 (state p b c d) m) (spread_by t p)) (spread_by t u) ≡ round_by t 2 (state u b c d) m
other-first t p u b c d m = same-state
    (exchange m.c0 (row_by t 2 0 p) (row_by t 2 0 u) (row_by t 2 1 b) (row_by t 2 2 c) (row_by t 2 3 d))
    (exchange m.c1 (row_by t 2 3 p) (row_by t 2 3 u) (row_by t 2 0 b) (row_by t 2 1 c) (row_by t 2 2 d))
    (exchange m.c2 (row_by t 2 2 p) (row_by t 2 2 u) (row_by t 2 3 b) (row_by t 2 0 c) (row_by t 2 1 d))
    (exchange m.c3 (row_by t 2 1 p) (row_by t 2 1 u) (row_by t 2 2 b) (row_by t 2 3 c) (row_by t 2 0 d))

-- both rounds: v is the last column before round 1
module _ (t : List ℕ) (x k m : State) (v : ℕ) (e1 : byte 1 x.c3 ≡ byte 1 v) (e2 : byte 2 x.c3 ≡ byte 2 v) (e3 : byte 3 x.c3 ≡ byte 3 v) where
  two-rounds : after_two t (front_by t x k m) v ≡ round_by t 2 (round_by t 2 (ending x v) k) m
  two-rounds =
      let y : State = round_by t 2 x k in
      let a : ℕ = bit_xor (bit_xor (bit_xor k.c0 (row_by t 2 0 x.c0)) (row_by t 2 1 x.c1)) (row_by t 2 2 x.c2) in
      let b : ℕ = bit_xor (bit_xor (bit_xor k.c1 (row_by t 2 3 x.c0)) (row_by t 2 0 x.c1)) (row_by t 2 1 x.c2) in
      let c : ℕ = bit_xor (bit_xor (bit_xor k.c2 (row_by t 2 2 x.c0)) (row_by t 2 3 x.c1)) (row_by t 2 0 x.c2) in
      let d : ℕ = bit_xor (bit_xor (bit_xor k.c3 (row_by t 2 1 x.c0)) (row_by t 2 2 x.c1)) (row_by t 2 3 x.c2) in
      other-first t y.c0 (bit_xor (bit_xor y.c0 (row_by t 2 3 x.c3)) (row_by t 2 3 v)) y.c1 y.c2 y.c3 m
      ∙ ap (λ (s : State). round_by t 2 s m)
      (same-state
      (ap (λ (n : ℕ). bit_xor n (row_by t 2 3 v)) (xor-twice a (row_by t 2 3 x.c3)))
      (ap (λ (n : ℕ). bit_xor b (cell t 2 2 n)) e1)
      (ap (λ (n : ℕ). bit_xor c (cell t 2 1 n)) e2)
      (ap (λ (n : ℕ). bit_xor d (cell t 2 0 n)) e3))

-- ---- the front, of a block

-- a higher byte of a word with another last byte, under a key
higher : (i a v k : ℕ) → v / 2 ^ 8 ≡ a / 2 ^ 8 → byte (i + 1) (bit_xor a k) ≡ byte (i + 1) (bit_xor v k)
higher i a v k e =
    byte-xor (i + 1) a k
    ∙ ap (λ (n : ℕ). bit_xor n (byte (i + 1) k)) (byte-up i 1 a ∙ ap (byte i) (sym e) ∙ sym (byte-up i 1 v))
    ∙ sym (byte-xor (i + 1) v k)

front_by_lem : (t : List ℕ) (w : List ℕ) → RoundTable t → (s : State) → FrontOf t w s (front_by t (added_to s (key_state w 0)) (key_state w 1) (key_state w 2))
unfolding rounds
front_by_lem t w h s = record {
  second = λ v e.
      let z : State = key_state w 0 in
      let k : State = key_state w 1 in
      let m : State = key_state w 2 in
      let x : State = added_to (ending s v) z in
      ap block (two-rounds t (added_to s z) k m (bit_xor v z.c3) (higher 0 s.c3 v z.c3 e) (higher 1 s.c3 v z.c3 e) (higher 2 s.c3 v z.c3 e))
      ∙ round_by_lem t h (round_by t 2 x k) m
      ∙ ap (λ (l : List ℕ). round_of l (block m)) (round_by_lem t h x k ∙ ap (λ (l : List ℕ). round_of l (block k)) (added-to (ending s v) z));
}

-- ---- as the code makes it

pub front-made : (t : List ℕ) (w : List ℕ) → RoundTable t → (s z x k m : State) (f : Front) → z ≡ key_state w 0 → x ≡ added_to s z → k ≡ key_state w 1 → m ≡ key_state w 2
    → f ≡ front_by t x k m → FrontOf t w s f
front-made t w h s z x k m f ez ex ek em ef =
    let made : f ≡ front_by t (added_to s (key_state w 0)) (key_state w 1) (key_state w 2) = cc in
    subst (λ (g : Front). FrontOf t w s g) (sym made) (front_by_lem t w h s)

-- ---- several blocks of a series: what stands behind round 2 of each, once the cipher is finished

module _ (t w : List ℕ) (s : State) (f : Front) (h : FrontOf t w s f) (low : s.c3 % 2 ^ 8 ≡ 0) where
  -- the state behind round 2 of the block with j as its last byte, and what has gone into it
  abbrev pub behind : ℕ → State
  behind j = after_two t f (bit_xor (s.c3 + j) (get_or w 3 0))

  abbrev pub keyed : ℕ → List ℕ
  keyed j = add_round_key (block (ending s (s.c3 + j))) (round_key w 0)

  behind-rounds : (j n k : ℕ) → j + k + n ≤ 256 → map block (map (λ i. behind (j + i)) (range_with_len k n)) ≡ map (rounds w 2) (map keyed (range_with_len (j + k) n))
  behind-rounds j zero k b = refl
  behind-rounds j (suc n) k b =
      ap₂ ◌∷◌ (h.second (s.c3 + (j + k)) (omega arith))
      (behind-rounds j n (k + 1) (omega arith) ∙ ap (λ (i : ℕ). map (rounds w 2) (map keyed (range_with_len i n))) (sym (add_assoc j k 1)))

  -- n of them, from the last byte j on
  pub all-blocks : (nr j n : ℕ) {xs : List State} (rs : List State) → j + n ≤ 256 → xs ≡ map (λ k. behind (j + k)) (range_with_len 0 n)
      → ((zs : List (List ℕ)) → map block xs ≡ map (rounds w 2) zs → map block rs ≡ map (λ z. last_round_of (rounds w (nr - 1) z) (round_key w nr)) zs)
      → map block rs ≡ map (λ i. cipher w nr (block (ending s (s.c3 + i)))) (range_with_len j n)
  unfolding cipher
  all-blocks nr j n rs b e f =
      f (map keyed (range_with_len j n))
      (ap (map block) e ∙ behind-rounds j n 0 (omega arith) ∙ ap (λ (i : ℕ). map (rounds w 2) (map keyed (range_with_len i n))) (add-zero j))
      ∙ maps (λ z. last_round_of (rounds w (nr - 1) z) (round_key w nr)) keyed (λ i. last_round_of (rounds w (nr - 1) (keyed i)) (round_key w nr)) (λ i. refl)
      (range_with_len j n)
