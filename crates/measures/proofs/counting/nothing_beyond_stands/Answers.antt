use Rattle.measures.proofs.Countings.{nothing_beyond}
use Rattle.measures.proofs.counting.nothing_beyond_stands.Goals as goal

pub returns : goal.returns
returns c = nothing_beyond
