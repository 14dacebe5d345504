use Rattle.rules.proofs.Runs.{runs_answer}
use Rattle.rules.proofs.run_laws.runs_answer_stands.Goals as goal

pub returns : goal.returns
returns c = runs_answer
