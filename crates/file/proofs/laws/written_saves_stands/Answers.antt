use Rattle.file.proofs.Writings.{written_saves}
use Rattle.file.proofs.laws.written_saves_stands.Goals as goal

pub returns : goal.returns
returns c = written_saves
