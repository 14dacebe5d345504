use Rattle.rules.proofs.Groups.{division_groups}
use Rattle.rules.proofs.tree_laws.division_groups_stand.Goals as goal

pub returns : goal.returns
returns c = division_groups
