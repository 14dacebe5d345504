use Rattle.rules.proofs.Hits.{hits_all}
use Rattle.rules.proofs.laws.hits_all_stands.Goals as goal

pub returns : goal.returns
returns c = hits_all
