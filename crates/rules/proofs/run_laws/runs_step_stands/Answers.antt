use Rattle.rules.proofs.Runs.{runs_step}
use Rattle.rules.proofs.run_laws.runs_step_stands.Goals as goal

pub returns : goal.returns
returns c = runs_step
