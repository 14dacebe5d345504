use Rattle.rules.proofs.Cases.{worked}
use Rattle.rules.proofs.laws.worked_cases.Goals as goal

pub returns : goal.returns
returns c = worked
