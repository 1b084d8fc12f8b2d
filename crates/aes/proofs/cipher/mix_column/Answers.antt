use Prim.Native.Nat.{◌<◌}
use borrow.Author.Rules.{rules}
use native.Mathlib.Omega.{arith}
use lib.ListN.{get_or}
use Rattle.std.proofs.lemmas.Nat.{xor_of_8}
use Rattle.aes.proofs.StateLaws.{bytes_of-four}
use Rattle.aes.proofs.cipher.mix_column.Goals as goal

pub returns : goal.returns
returns c =
    let r = c.to_be_bytes.result in
    let h0 : get_or r 0 0 < 256 = simp c.to_be_bytes.ensures (omega arith) in
    let h1 : get_or r 1 0 < 256 = simp c.to_be_bytes.ensures (omega arith) in
    let h2 : get_or r 2 0 < 256 = simp c.to_be_bytes.ensures (omega arith) in
    let h3 : get_or r 3 0 < 256 = simp c.to_be_bytes.ensures (omega arith) in
    simp (c.to_be_bytes.ensures, c.times2.ensures, c.times3.ensures, c.times2-2.ensures, c.times3-2.ensures, c.times2-3.ensures, c.times3-3.ensures, c.times3-4.ensures, c.times2-4.ensures)
    at (bytes_of-four _ _ _ _ _ (search (rules, xor_of_8)) (search (rules, xor_of_8)) (search (rules, xor_of_8)) (search (rules, xor_of_8)) c.from_be_bytes.ensures)
