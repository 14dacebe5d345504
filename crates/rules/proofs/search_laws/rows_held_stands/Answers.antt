use Rattle.rules.proofs.Holdings.{rows_held}
use Rattle.rules.proofs.search_laws.rows_held_stands.Goals as goal

pub returns : goal.returns
returns c = rows_held
