use Rattle.lines.proofs.Cuts.{lines_law}
use Rattle.lines.proofs.laws.lines_stand.Goals as goal

pub returns : goal.returns
returns c = lines_law
