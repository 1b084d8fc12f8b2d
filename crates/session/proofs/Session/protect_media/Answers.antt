use mathlib.Core.Path.{◌≡◌}
use native.Mathlib.Omega.{arith}
use lib.ListN.{length}
use Rattle.session.proofs.PacketReturns.{media-written}
use borrow.Author.Rules.{rules}
use Rattle.session.proofs.Session.protect_media.Goals as goal

pub returns : goal.returns
returns c =
    let l : length c.args.self.settings.mki ≡ 4 = search rules in
    let w = media-written c.args.self _ _ _ _ _ _ _ l c.requires.lengths.0 (omega (arith, c.requires.lengths)) (omega (arith, c.requires.lengths))
    c.cipher_media.ensures
    c.media_tag.ensures
    (c.finish.ensures.written, c.finish.ensures.place) in
    record { size = w.0; written = w.1 }
