use mathlib.Core.Path.{refl}
use Rattle.session.proofs.PacketReturns.{both-put}
use Rattle.session.proofs.packets.put_both.Goals as goal

pub returns-clause-written : goal.returns-clause-written
returns-clause-written c = both-put c.args.at c.args.first.now c.args.second.now c.args.out.now _ c.requires c.copy_over.ensures _ _ refl c.copy_over-2.ensures
