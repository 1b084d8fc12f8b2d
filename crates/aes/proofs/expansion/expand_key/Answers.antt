use mathlib.Core.Path.{ap, ◌∙◌}
use Prim.Native.Nat.{◌+◌, ◌*◌}
use Rattle.aes.specs.KeyExpansion.{expand, key_expansion}
use Rattle.aes.proofs.expansion.expand_key.Goals as goal

pub returns : goal.returns
unfolding key_expansion
returns c =
    let a = c.args in
    c.fill.ensures ∙ ap (expand a.nk (3 * a.nk + 28)) c.load_key.ensures.words
