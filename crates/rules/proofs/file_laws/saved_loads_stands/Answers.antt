use Rattle.rules.proofs.Files.{saved_loads}
use Rattle.rules.proofs.file_laws.saved_loads_stands.Goals as goal

pub returns : goal.returns
returns c = saved_loads
