use Rattle.rules.proofs.Searches.{search_finds}
use Rattle.rules.proofs.search_laws.search_finds_stands.Goals as goal

pub returns : goal.returns
returns c = search_finds
