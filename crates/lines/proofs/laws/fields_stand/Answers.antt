use Rattle.lines.proofs.Texts.{fields_law}
use Rattle.lines.proofs.laws.fields_stand.Goals as goal

pub returns : goal.returns
returns c = fields_law
