use Rattle.rules.proofs.Choices.{choice_first}
use Rattle.rules.proofs.tree_laws.choice_first_stands.Goals as goal

pub returns : goal.returns
returns c = choice_first
