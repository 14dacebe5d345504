use Rattle.rules.proofs.Hits.{hits_within}
use Rattle.rules.proofs.laws.hits_within_stands.Goals as goal

pub returns : goal.returns
returns c = hits_within
