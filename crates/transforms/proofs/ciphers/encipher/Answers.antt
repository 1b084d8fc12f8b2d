use mathlib.Core.Path.{refl}
use Rattle.transforms.proofs.EncipherLaws.{counter-mode, aes-text, no_text}
use Rattle.transforms.proofs.ciphers.encipher.Goals as goal

pub returns-in-Aes : goal.returns-in-Aes
returns-in-Aes c =
    let x = c.args in
    let s = c.new.result.first in
    λ clear.
    aes-text x.cipher x.keys x.ssrc x.index x.start clear x.text.now _ c.in-Aes.is
    (counter-mode x.keys x.ssrc x.index x.start clear x.text.now _ s.c0 s.c1 s.c2 s.c3 c.new.ensures.counter
    (simp c.new.ensures.words at c.xor_in.ensures))

pub returns-in-Null : goal.returns-in-Null
returns-in-Null c =
    let x = c.args in
    λ clear. no_text x.cipher x.keys x.ssrc x.index x.start clear x.text.now _ c.in-Null.is refl
