use Rattle.std.proofs.Common.{length}
use Rattle.tree.proofs.Cuts.{bounded_or}
use Rattle.tree.proofs.fixed.common_of.Goals as goal

pub returns-clause-small : goal.returns-clause-small
returns-clause-small c = bounded_or c.common_area.result (length c.args.a.now) c.unwrap_or.result c.unwrap_or.ensures c.common_area.ensures.most c.requires.short
