use Rattle.rules.proofs.Runs.{runs_keep}
use Rattle.rules.proofs.run_laws.runs_keep_stands.Goals as goal

pub returns : goal.returns
returns c = runs_keep
