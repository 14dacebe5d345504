use Rattle.rules.proofs.Entering.{entering_builds}
use Rattle.rules.proofs.tree_laws.entering_builds_stands.Goals as goal

pub returns : goal.returns
returns c = entering_builds
