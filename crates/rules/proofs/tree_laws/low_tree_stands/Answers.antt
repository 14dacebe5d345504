use Rattle.rules.proofs.Sizes.{low_tree}
use Rattle.rules.proofs.tree_laws.low_tree_stands.Goals as goal

pub returns : goal.returns
returns c = low_tree
