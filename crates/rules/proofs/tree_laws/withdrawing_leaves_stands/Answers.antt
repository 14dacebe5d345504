use Rattle.rules.proofs.Withdrawing.{withdrawing_leaves}
use Rattle.rules.proofs.tree_laws.withdrawing_leaves_stands.Goals as goal

pub returns : goal.returns
returns c = withdrawing_leaves
