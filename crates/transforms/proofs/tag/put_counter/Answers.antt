use Rattle.transforms.proofs.RccLaws.{counter-joined}
use Rattle.transforms.proofs.tag.put_counter.Goals as goal

pub returns : goal.returns
returns c =
    let x = c.args in
    counter-joined _ x.tag.now _ _ _ c.told-tag c.copy_from_slice.ensures.after c.store.ensures c.copy_from_slice-2.ensures.after
