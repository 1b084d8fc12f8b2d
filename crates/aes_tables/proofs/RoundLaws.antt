-- A round by table is a round of FIPS 197. Assumes nothing.
use mathlib.Core.List.{List, [], ◌∷◌, ◌++◌, map}
use mathlib.Core.Path.{◌≡◌, refl, sym, ap, ap₂, ◌∙◌}
use Prim.Native.Nat.{ℕ, ◌+◌, ◌-◌, ◌*◌, ◌/◌, ◌%◌, ◌^◌, ◌<◌, ◌≤◌}
use native.Mathlib.Omega.{arith}
use lib.Bits.{bit_xor, xor_comm, xor_zero_l, xor_zero_r}
use lib.ListN.{drop, get_or}
use Rattle.aes.proofs.AesLaws.{next-round}
use Rattle.aes.proofs.StateLaws.{added-words}
use Rattle.aes.specs.Cipher.{mix_column, round_key, round_of, last_round_of, rounds}
use Rattle.aes.specs.Columns.{block, state}
use Rattle.aes.specs.SBox.{s_box}
use Rattle.aes.specs.declared.State.{State}
use Rattle.octets.proofs.BigEndianLaws.{byte-is, byte-lt, to_bytes-xor}
use Rattle.octets.proofs.XorLaws.{xor_assoc}
use Rattle.octets.specs.BigEndian.{byte, to_bytes}
use Rattle.octets.specs.Xor.{xors}
use Rattle.aes_tables.specs.Table.{products, alone, word, entry, cell, Rows, RoundTable}
use Rattle.aes_tables.specs.Rounds.{row_by, round_by, each_round_by}

-- row r of the entry of the byte that stands in row r of a column
pub row_of : (t : List ℕ) (d r a v : ℕ) → r < 4 → v ≡ entry t d (a / 2 ^ (24 - 8 * r) % 2 ^ 8) → word r v ≡ row_by t d r a
unfolding cell
row_of t d r a v h e =
    let k : 24 - 8 * r ≡ 8 * (3 - r) = omega arith in
    ap (word r) (e ∙ ap (λ (n : ℕ). entry t d (a / 2 ^ n % 2 ^ 8)) k ∙ ap (entry t d) (sym (byte-is (3 - r) a)))

-- ---- the terms of a column, in another order

pub swap : (a b c : ℕ) → bit_xor (bit_xor a b) c ≡ bit_xor (bit_xor a c) b
swap a b c = xor_assoc a b c ∙ ap (bit_xor a) (xor_comm b c) ∙ sym (xor_assoc a c b)

first-last : (p q r s : ℕ) → bit_xor (bit_xor (bit_xor p q) r) s ≡ bit_xor (bit_xor (bit_xor q r) s) p
first-last p q r s = ap (λ (x : ℕ). bit_xor x s) (xor_assoc p q r) ∙ xor_assoc p (bit_xor q r) s ∙ xor_comm p (bit_xor (bit_xor q r) s)

key-last : (k p q r s : ℕ) → bit_xor (bit_xor (bit_xor (bit_xor k p) q) r) s ≡ bit_xor (bit_xor (bit_xor (bit_xor p q) r) s) k
key-last k p q r s = ap (λ (x : ℕ). bit_xor x s) (first-last k p q r) ∙ swap (bit_xor (bit_xor p q) r) k s

pub same-state : {a b c d a' b' c' d' : ℕ} → a ≡ a' → b ≡ b' → c ≡ c' → d ≡ d' → state a b c d ≡ state a' b' c' d'
same-state p q r s = cc

-- ---- a round, column by column

-- a column of SubBytes, ShiftRows and MixColumns, or without the last, as the table has it: row 0 from a, row 1 from b, row 2 from c, row 3 from d
abbrev column_by : (t : List ℕ) (n a b c d : ℕ) → ℕ
column_by t n a b c d = bit_xor (bit_xor (bit_xor (row_by t n 0 a) (row_by t n 1 b)) (row_by t n 2 c)) (row_by t n 3 d)

by-columns : (t : List ℕ) (n : ℕ) (s k : State)
    → round_by t n s k
    ≡ state (bit_xor (column_by t n s.c0 s.c1 s.c2 s.c3) k.c0) (bit_xor (column_by t n s.c1 s.c2 s.c3 s.c0) k.c1)
    (bit_xor (column_by t n s.c2 s.c3 s.c0 s.c1) k.c2) (bit_xor (column_by t n s.c3 s.c0 s.c1 s.c2) k.c3)
by-columns t n s k = same-state
    (key-last k.c0 (r 0 s.c0) (r 1 s.c1) (r 2 s.c2) (r 3 s.c3))
    (key-last k.c1 (r 3 s.c0) (r 0 s.c1) (r 1 s.c2) (r 2 s.c3)
    ∙ ap (λ (x : ℕ). bit_xor x k.c1) (first-last (r 3 s.c0) (r 0 s.c1) (r 1 s.c2) (r 2 s.c3)))
    (key-last k.c2 (r 2 s.c0) (r 3 s.c1) (r 0 s.c2) (r 1 s.c3)
    ∙ ap (λ (x : ℕ). bit_xor x k.c2)
    (first-last (r 2 s.c0) (r 3 s.c1) (r 0 s.c2) (r 1 s.c3) ∙ first-last (r 3 s.c1) (r 0 s.c2) (r 1 s.c3) (r 2 s.c0)))
    (key-last k.c3 (r 1 s.c0) (r 2 s.c1) (r 3 s.c2) (r 0 s.c3)
    ∙ ap (λ (x : ℕ). bit_xor x k.c3)
    (first-last (r 1 s.c0) (r 2 s.c1) (r 3 s.c2) (r 0 s.c3) ∙ first-last (r 2 s.c1) (r 3 s.c2) (r 0 s.c3) (r 1 s.c0)
    ∙ first-last (r 3 s.c2) (r 0 s.c3) (r 1 s.c0) (r 2 s.c1)))
  where
    r : ℕ → ℕ → ℕ
    r i a = row_by t n i a

xor-of : (x y : ℕ) {a b : List ℕ} → to_bytes 4 x ≡ a → to_bytes 4 y ≡ b → to_bytes 4 (bit_xor x y) ≡ xors a b
xor-of x y p q = to_bytes-xor 4 x y ∙ ap₂ xors p q

-- the round whose columns are g of the four columns that they come from
round-columns : (t : List ℕ) (n : ℕ) (g : (a b c d : ℕ) → List ℕ) → ((a b c d : ℕ) → to_bytes 4 (column_by t n a b c d) ≡ g a b c d) → (s k : State)
    → block (round_by t n s k)
    ≡ xors (g s.c0 s.c1 s.c2 s.c3) (to_bytes 4 k.c0) ++ xors (g s.c1 s.c2 s.c3 s.c0) (to_bytes 4 k.c1)
    ++ xors (g s.c2 s.c3 s.c0 s.c1) (to_bytes 4 k.c2) ++ xors (g s.c3 s.c0 s.c1 s.c2) (to_bytes 4 k.c3)
round-columns t n g h s k =
    ap block (by-columns t n s k)
    ∙ added-words (column_by t n s.c0 s.c1 s.c2 s.c3) (column_by t n s.c1 s.c2 s.c3 s.c0)
    (column_by t n s.c2 s.c3 s.c0 s.c1) (column_by t n s.c3 s.c0 s.c1 s.c2) k.c0 k.c1 k.c2 k.c3
    (h s.c0 s.c1 s.c2 s.c3) (h s.c1 s.c2 s.c3 s.c0) (h s.c2 s.c3 s.c0 s.c1) (h s.c3 s.c0 s.c1 s.c2)

-- a column, by a table of f
column : (t : List ℕ) (n : ℕ) (f : ℕ → ℕ → List ℕ) → Rows f n t → (a b c d : ℕ)
    → to_bytes 4 (column_by t n a b c d) ≡ xors (xors (xors (f 0 (s_box (byte 3 a))) (f 1 (s_box (byte 2 b)))) (f 2 (s_box (byte 1 c)))) (f 3 (s_box (byte 0 d)))
column t n f h a b c d =
    let w : ℕ = row_by t n 0 a in
    let x : ℕ = row_by t n 1 b in
    let y : ℕ = row_by t n 2 c in
    let z : ℕ = row_by t n 3 d in
    xor-of (bit_xor (bit_xor w x) y) z
    (xor-of (bit_xor w x) y
    (xor-of w x (h 0 (byte 3 a) (omega arith) (byte-lt 3 a)) (h 1 (byte 2 b) (omega arith) (byte-lt 2 b)))
    (h 2 (byte 1 c) (omega arith) (byte-lt 1 c)))
    (h 3 (byte 0 d) (omega arith) (byte-lt 0 d))

pub round_by_lem : (t : List ℕ) → RoundTable t → (s k : State) → block (round_by t 2 s k) ≡ round_of (block s) (block k)
round_by_lem t h = round-columns t 2 (λ a b c d. mix_column (s_box (byte 3 a)) (s_box (byte 2 b)) (s_box (byte 1 c)) (s_box (byte 0 d))) (column t 2 products h.mixed)

-- ---- the last round

four : {a b c d a' b' c' d' : ℕ} → a ≡ a' → b ≡ b' → c ≡ c' → d ≡ d' → ◌≡◌ {A = List ℕ} (a ∷ b ∷ c ∷ d ∷ []) (a' ∷ b' ∷ c' ∷ d' ∷ [])
four p q r s = cc

-- bytes that stand alone, each in a row of its own
apart : (p q r s : ℕ) → xors (xors (xors (alone 0 p) (alone 1 q)) (alone 2 r)) (alone 3 s) ≡ p ∷ q ∷ r ∷ s ∷ []
apart p q r s =
    let z : bit_xor 0 0 ≡ 0 = xor_zero_l 0 in
    four (xor_zero_r (bit_xor (bit_xor p 0) 0) ∙ xor_zero_r (bit_xor p 0) ∙ xor_zero_r p)
    (xor_zero_r (bit_xor (bit_xor 0 q) 0) ∙ xor_zero_r (bit_xor 0 q) ∙ xor_zero_l q)
    (xor_zero_r (bit_xor (bit_xor 0 0) r) ∙ ap (λ (x : ℕ). bit_xor x r) z ∙ xor_zero_l r)
    (ap (λ (x : ℕ). bit_xor (bit_xor x 0) s) z ∙ ap (λ (x : ℕ). bit_xor x s) z ∙ xor_zero_l s)

last-by : (t : List ℕ) → Rows alone 1 t → (s k : State) → block (round_by t 1 s k) ≡ last_round_of (block s) (block k)
last-by t h =
    round-columns t 1 (λ a b c d. s_box (byte 3 a) ∷ s_box (byte 2 b) ∷ s_box (byte 1 c) ∷ s_box (byte 0 d) ∷ [])
    (λ a b c d. column t 1 alone h a b c d ∙ apart (s_box (byte 3 a)) (s_box (byte 2 b)) (s_box (byte 1 c)) (s_box (byte 0 d)))

-- ---- several states at a time

pub maps : {A B C : Type 0} (f : B → C) (g : A → B) (h : A → C) → ((z : A) → f (g z) ≡ h z) → (zs : List A) → map f (map g zs) ≡ map h zs
maps f g h e [] = refl
maps f g h e (z ∷ zs) = ap₂ ◌∷◌ (e z) (maps f g h e zs)

each-by : (t : List ℕ) (d : ℕ) (k : State) (g : List ℕ → List ℕ) → ((s : State) → block (round_by t d s k) ≡ g (block s)) → (xs : List State)
    → map block (each_round_by t d xs k) ≡ map g (map block xs)
unfolding each_round_by
each-by t d k g e xs =
    maps block (λ (s : State). round_by t d s k) (λ s. g (block s)) e xs ∙ sym (maps g block (λ s. g (block s)) (λ s. refl) xs)

pub each-mixed : (t : List ℕ) → RoundTable t → (k : State) (xs : List State) → map block (each_round_by t 2 xs k) ≡ map (λ s. round_of s (block k)) (map block xs)
each-mixed t h k = each-by t 2 k (λ s. round_of s (block k)) (λ s. round_by_lem t h s k)

pub each-last : (t : List ℕ) → RoundTable t → (k : State) (xs : List State)
    → map block (each_round_by (drop 512 t) 1 xs k) ≡ map (λ s. last_round_of s (block k)) (map block xs)
each-last t h k = each-by (drop 512 t) 1 k (λ s. last_round_of s (block k)) (λ s. last-by (drop 512 t) h.last s k)

-- one turn of the loop over the rounds: they have gone through rounds 1 to i - 1
pub next-rounds : (w : List ℕ) (i : ℕ) (k : List ℕ) (zs : List (List ℕ)) {xs rs : List (List ℕ)} → 1 ≤ i → k ≡ round_key w i
    → xs ≡ map (rounds w (i - 1)) zs → rs ≡ map (λ s. round_of s k) xs → rs ≡ map (rounds w (i + 1 - 1)) zs
next-rounds w i k zs p e f g =
    g ∙ ap (map (λ s. round_of s k)) f
    ∙ maps (λ s. round_of s k) (rounds w (i - 1)) (rounds w (i + 1 - 1)) (λ z. next-round w z i p refl e refl) zs

-- its end
pub all-behind : (w : List ℕ) (nr i : ℕ) (k : List ℕ) (zs : List (List ℕ)) {xs rs : List (List ℕ)} → i ≡ nr → k ≡ round_key w nr
    → xs ≡ map (rounds w (i - 1)) zs → rs ≡ map (λ s. last_round_of s k) xs → rs ≡ map (λ z. last_round_of (rounds w (nr - 1) z) (round_key w nr)) zs
all-behind w nr i k zs e f q g =
    g ∙ ap (map (λ s. last_round_of s k)) q
    ∙ maps (λ s. last_round_of s k) (rounds w (i - 1)) (λ z. last_round_of (rounds w (nr - 1) z) (round_key w nr))
    (λ z. ap₂ (λ (n : ℕ) (r : List ℕ). last_round_of (rounds w (n - 1) z) r) e f) zs

-- one state alone
pub alone-in : (r : List State) (d : State) {x : List ℕ} → map block r ≡ x ∷ [] → block (get_or r 0 d) ≡ x
alone-in [] d e = cc
alone-in (s ∷ r) d e = cc

-- and two
pub both-in : (r : List State) (d : State) {x y : List ℕ} → map block r ≡ x ∷ y ∷ [] → (block (get_or r 0 d) ≡ x) × (block (get_or r 1 d) ≡ y)
both-in [] d e = cc
both-in (s ∷ []) d e = cc
both-in (s ∷ t ∷ r) d e = (cc, cc)
