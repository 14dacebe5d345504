use Rattle.rules.proofs.Rankings.{ranking_same}
use Rattle.rules.proofs.laws.ranking_same_stands.Goals as goal

pub returns : goal.returns
returns c = ranking_same
