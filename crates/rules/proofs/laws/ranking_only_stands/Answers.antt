use Rattle.rules.proofs.Rankings.{ranking_only}
use Rattle.rules.proofs.laws.ranking_only_stands.Goals as goal

pub returns : goal.returns
returns c = ranking_only
