use Rattle.std.proofs.Common.{sym}
use Rattle.measures.proofs.Tallies.{beyond_table}
use Rattle.measures.proofs.count.Count.number.Goals as goal

pub returns-else-dimension-lt10 : goal.returns-else-dimension-lt10
returns-else-dimension-lt10 c =
    sym (beyond_table c.args.self.now.numbers c.args.dimension c.args.letter c.args.self.now.shape c.else-dimension-lt10.either)
