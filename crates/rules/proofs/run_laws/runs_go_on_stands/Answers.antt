use Rattle.rules.proofs.Runs.{runs_go_on}
use Rattle.rules.proofs.run_laws.runs_go_on_stands.Goals as goal

pub returns : goal.returns
returns c = runs_go_on
