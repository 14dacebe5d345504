use Rattle.rules.proofs.Entering.{division_divides}
use Rattle.rules.proofs.tree_laws.division_divides_stands.Goals as goal

pub returns : goal.returns
returns c = division_divides
