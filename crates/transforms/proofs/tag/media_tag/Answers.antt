use Rattle.transforms.proofs.RccLaws.{tag-carried, tag-plain}
use Rattle.transforms.proofs.tag.media_tag.Goals as goal

pub returns-then-carries : goal.returns-then-carries
returns-then-carries c = search tag-carried

pub returns-else-carries : goal.returns-else-carries
returns-else-carries c = search tag-plain
