use Rattle.rules.proofs.Entering.{entering_adds}
use Rattle.rules.proofs.tree_laws.entering_adds_stands.Goals as goal

pub returns : goal.returns
returns c = entering_adds
