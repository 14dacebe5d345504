use Rattle.std.proofs.Common.{length}
use Rattle.tree.proofs.Cuts.{bounded_or}
use Rattle.tree.proofs.fixed.area_of.Goals as goal

pub returns-clause-small : goal.returns-clause-small
returns-clause-small c = bounded_or c.area.result (length c.args.sets.now) c.unwrap_or.result c.unwrap_or.ensures c.area.ensures.most c.requires
