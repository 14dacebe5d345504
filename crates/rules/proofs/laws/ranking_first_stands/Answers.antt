use Rattle.rules.proofs.Rankings.{ranking_first}
use Rattle.rules.proofs.laws.ranking_first_stands.Goals as goal

pub returns : goal.returns
returns c = ranking_first
