use Rattle.rules.proofs.Choices.{division_best}
use Rattle.rules.proofs.tree_laws.division_best_stands.Goals as goal

pub returns : goal.returns
returns c = division_best
