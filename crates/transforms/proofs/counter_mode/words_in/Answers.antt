use mathlib.Core.List.{◌++◌}
use mathlib.Core.Path.{refl}
use native.Mathlib.Omega.{arith}
use Rattle.octets.specs.BigEndian.{to_bytes}
use Rattle.transforms.proofs.XoredLaws.{xored-both}
use Rattle.transforms.proofs.counter_mode.words_in.Goals as goal

pub returns : goal.returns
returns c =
    let x = c.args in
    let a = to_bytes 4 x.k.c0 in
    let b = to_bytes 4 x.k.c1 in
    let d = to_bytes 4 x.k.c2 in
    xored-both x.at 12 4 (a ++ b ++ d) (to_bytes 4 x.k.c3) x.out.now _ _ refl (omega arith)
    (xored-both x.at 8 4 (a ++ b) d x.out.now _ _ refl (omega arith)
    (xored-both x.at 4 4 a b x.out.now _ _ refl (omega arith) c.xor_word_in.ensures c.xor_word_in-2.ensures)
    c.xor_word_in-3.ensures)
    c.xor_word_in-4.ensures
