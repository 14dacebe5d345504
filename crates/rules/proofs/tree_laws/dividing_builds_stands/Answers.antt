use Rattle.rules.proofs.Entering.{dividing_builds}
use Rattle.rules.proofs.tree_laws.dividing_builds_stands.Goals as goal

pub returns : goal.returns
returns c = dividing_builds
