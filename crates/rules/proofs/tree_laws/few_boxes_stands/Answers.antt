use Rattle.rules.proofs.Sizes.{few_boxes}
use Rattle.rules.proofs.tree_laws.few_boxes_stands.Goals as goal

pub returns : goal.returns
returns c = few_boxes
