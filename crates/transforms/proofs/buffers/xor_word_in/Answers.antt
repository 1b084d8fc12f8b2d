use Rattle.transforms.proofs.XoredLaws.{word_in}
use Rattle.transforms.proofs.buffers.xor_word_in.Goals as goal

pub returns : goal.returns
returns c =
    let a = c.args in
    word_in a.at c.load-x.result a.v a.d.now _ c.load-x.ensures.bytes c.store.ensures
