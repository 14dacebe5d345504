use Rattle.rules.proofs.Walks.{walk_finds}
use Rattle.rules.proofs.search_laws.walk_finds_stands.Goals as goal

pub returns : goal.returns
returns c = walk_finds
