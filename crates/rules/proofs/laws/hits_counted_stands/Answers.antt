use Rattle.rules.proofs.Hits.{hits_counted}
use Rattle.rules.proofs.laws.hits_counted_stands.Goals as goal

pub returns : goal.returns
returns c = hits_counted
