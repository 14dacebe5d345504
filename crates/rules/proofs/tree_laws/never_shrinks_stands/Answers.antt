use Rattle.rules.proofs.Choices.{never_shrinks}
use Rattle.rules.proofs.tree_laws.never_shrinks_stands.Goals as goal

pub returns : goal.returns
returns c = never_shrinks
