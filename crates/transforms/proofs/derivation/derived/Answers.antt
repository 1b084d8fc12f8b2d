use lib.ListN.{length}
use Rattle.transforms.proofs.DerivationLaws.{derived-in}
use Rattle.transforms.proofs.derivation.derived.Goals as goal

pub returns : goal.returns
returns c =
    let x = c.args in
    let s = c.new-keystream.result.first in
    λ key e.
    derived-in key x.salt x.label x.w.now _ _ s.c0 s.c1 s.c2 s.c3 (length x.out.now) (simp c.from.ensures at c.new-keystream.ensures.counter)
    (c.fill.ensures.after (λ y h. h)) (simp c.new-keystream.ensures.words at c.xor_in.ensures) e
