use Rattle.std.proofs.Common.{arith}
use Rattle.measures.specs.Kin.{common_family}
use Rattle.measures.proofs.family.has_family.Goals as goal

pub returns : goal.returns
returns c = common_family c.args.set c.family_of.result c.args.letter (omega arith) c.family_of.ensures
