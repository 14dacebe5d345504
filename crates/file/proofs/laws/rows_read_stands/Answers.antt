use Rattle.file.proofs.Passing.{rows_read}
use Rattle.file.proofs.laws.rows_read_stands.Goals as goal

pub returns : goal.returns
returns c = rows_read
