use Rattle.std.proofs.Common.{arith}
use Rattle.measures.proofs.Spares.{without_is}
use Rattle.measures.proofs.bar.without.Goals as goal

pub returns : goal.returns
returns c = without_is c.args.set c.args.barred (omega arith) (omega arith)
