use Rattle.rules.proofs.Withdrawing.{withdrawing_keeps}
use Rattle.rules.proofs.tree_laws.withdrawing_keeps_stands.Goals as goal

pub returns : goal.returns
returns c = withdrawing_keeps
