use Rattle.rules.proofs.Entering.{entering_boxes}
use Rattle.rules.proofs.tree_laws.entering_boxes_stands.Goals as goal

pub returns : goal.returns
returns c = entering_boxes
