use Rattle.rules.proofs.Runs.{enter_at_capacity}
use Rattle.rules.proofs.run_laws.enter_at_capacity_stands.Goals as goal

pub returns : goal.returns
returns c = enter_at_capacity
