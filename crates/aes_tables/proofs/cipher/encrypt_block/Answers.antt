use mathlib.Core.List.{List, [], ◌∷◌}
use mathlib.Core.Path.{refl, ap, ◌∙◌}
use Prim.Native.Nat.{ℕ, ◌-◌}
use Rattle.aes.specs.Cipher.{add_round_key, round_key, last_round_of, rounds, cipher}
use Rattle.aes.specs.Columns.{block}
use Rattle.aes_tables.proofs.RoundLaws.{alone-in}
use Rattle.aes_tables.proofs.cipher.encrypt_block.Goals as goal

pub returns : goal.returns
unfolding rounds cipher
returns c =
    let w = c.args.keys.now.words.now in
    let nr = c.args.keys.now.rounds in
    let x = block c.added.result in
    alone-in c.finish.result _ (c.finish.ensures (x ∷ []) refl)
    ∙ ap (λ (z : List ℕ). last_round_of (rounds w (nr - 1) z) (round_key w nr)) (c.added.ensures.bytes ∙ ap (add_round_key (block c.args.s)) c.at.ensures.bytes)
