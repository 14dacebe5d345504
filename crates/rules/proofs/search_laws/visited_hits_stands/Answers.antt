use Rattle.rules.proofs.Walks.{visited_hits}
use Rattle.rules.proofs.search_laws.visited_hits_stands.Goals as goal

pub returns : goal.returns
returns c = visited_hits
