use Rattle.rules.proofs.Files.{loaded_saves}
use Rattle.rules.proofs.file_laws.loaded_saves_stands.Goals as goal

pub returns : goal.returns
returns c = loaded_saves
