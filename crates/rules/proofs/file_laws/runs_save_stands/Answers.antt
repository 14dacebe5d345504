use Rattle.rules.proofs.RoundTrip.{runs_save}
use Rattle.rules.proofs.file_laws.runs_save_stands.Goals as goal

pub returns : goal.returns
returns c = runs_save
