-- Parts of lists, and lists of bytes. Assumes nothing.
use mathlib.Core.List.{List, [], ◌∷◌, ◌++◌}
use mathlib.Core.Path.{◌≡◌, ap, ◌∙◌}
use Prim.Native.Nat.{ℕ, zero, suc, ◌+◌, ◌-◌, ◌^◌, ◌<◌, ◌≤◌}
use native.Mathlib.Omega.{arith}
use lib.ListN.{take, drop, get_or}
use lib.Seq.{take-take}
use Rattle.std.proofs.lemmas.List.{drop-take}
use Rattle.octets.specs.BigEndian.{Bytes}

-- a part is a part of what is taken, where that reaches
pub part-take : (m at n : ℕ) (l : List ℕ) → at + m ≤ n → take m (drop at (take n l)) ≡ take m (drop at l)
part-take m at n l h =
    let e : n ≡ at + (n - at) = omega arith in
    let q : m ≤ n - at = omega arith in
    ap (λ (x : ℕ). take m (drop at (take x l))) e ∙ ap (take m) (drop-take at (n - at) l) ∙ take-take m (n - at) (drop at l) q

pub bytes-append : (a b : List ℕ) → Bytes a → Bytes b → Bytes (a ++ b)
bytes-append [] b p q = q
bytes-append (x ∷ a) b p q = (p.0, bytes-append a b p.1 q)

pub bytes_take : (n : ℕ) (l : List ℕ) → Bytes l → Bytes (take n l)
bytes_take zero l q = tt
bytes_take (suc n) [] q = tt
bytes_take (suc n) (x ∷ l) q = (q.0, bytes_take n l q.1)

pub bytes-get_or : (l : List ℕ) (i : ℕ) → Bytes l → get_or l i 0 < 2 ^ 8
bytes-get_or [] i q = omega arith
bytes-get_or (x ∷ l) zero q = q.0
bytes-get_or (x ∷ l) (suc i) q = bytes-get_or l i q.1
