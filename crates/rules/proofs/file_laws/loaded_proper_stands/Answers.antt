use Rattle.rules.proofs.Files.{loaded_proper}
use Rattle.rules.proofs.file_laws.loaded_proper_stands.Goals as goal

pub returns : goal.returns
returns c = loaded_proper
