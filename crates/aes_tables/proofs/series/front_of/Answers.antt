use mathlib.Core.List.{List}
use mathlib.Core.Path.{ap, ◌∙◌}
use Prim.Native.Nat.{ℕ}
use Rattle.aes_tables.specs.Series.{front_by}
use Rattle.aes_tables.proofs.SeriesLaws.{front-made}
use Rattle.aes_tables.proofs.series.front_of.Goals as goal

pub returns : goal.returns
returns c =
    let t = c.args.t in
    let w = c.args.keys.now.words.now in
    front-made t.words.now w t.rule c.args.s c.at.result c.added.result c.at-2.result c.at-3.result c.front_behind.result
    c.at.ensures.columns c.added.ensures.columns c.at-2.ensures.columns c.at-3.ensures.columns
    (c.front_behind.ensures ∙ ap (λ (l : List ℕ). front_by l c.added.result c.at-2.result c.at-3.result) c.mixed.ensures)
