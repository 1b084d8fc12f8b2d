use mathlib.Core.List.{List, ◌++◌}
use mathlib.Core.Path.{◌≡◌, sym, ap, ◌∙◌}
use Prim.Native.Nat.{ℕ, ◌+◌, ◌-◌}
use native.Mathlib.Omega.{arith}
use lib.ListN.{take, drop}
use Rattle.octets.specs.BigEndian.{to_bytes}
use Rattle.octets.proofs.BufferLaws.{over_at-middle}
use Rattle.octets.proofs.BigEndianLaws.{length-to_bytes}
use Rattle.octets.proofs.words.store.Goals as goal

pub returns : goal.returns
returns g c =
    let n = g.row.N in
    let at = c.args.at in
    let d = c.args.d.now in
    let v = g.W.Word.number c.args.v in
    let k : at + n - at ≡ n = omega arith in
    ap (λ (bs : List ℕ). take at d ++ (bs ++ drop (at + n - at) (drop at d))) (c.copy_from_slice.ensures.after ∙ c.to_be.ensures)
    ∙ over_at-middle at (at + n - at) (to_bytes n v) d (k ∙ sym (length-to_bytes n v))
