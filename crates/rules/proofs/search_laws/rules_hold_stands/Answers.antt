use Rattle.rules.proofs.Holdings.{rules_hold}
use Rattle.rules.proofs.search_laws.rules_hold_stands.Goals as goal

pub returns : goal.returns
returns c = rules_hold
