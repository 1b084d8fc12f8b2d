use Rattle.hmac_sha1.proofs.MessageLaws.{five-words}
use Rattle.hmac_sha1.proofs.State.put_digest.Goals as goal

pub returns : goal.returns
returns c =
    five-words c.args.self.now c.args.d.now _ _ _ _ _ c.store.ensures c.store-2.ensures c.store-3.ensures c.store-4.ensures c.store-5.ensures
