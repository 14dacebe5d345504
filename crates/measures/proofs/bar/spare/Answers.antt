use Rattle.std.proofs.Common.{arith}
use Rattle.measures.specs.Bars.{spared_more, spared_all}
use Rattle.measures.proofs.bar.spare.Goals as goal

pub loop-i-preserved : goal.loop-i-preserved
loop-i-preserved c =
    rw c.without.ensures (spared_more c.args.bars.now c.args.sets.now c.loop-i.left c.loop-i.i (omega arith) (omega arith) (omega arith) c.loop-i.invariant)

pub returns : goal.returns
returns c =
    spared_all c.args.bars.now c.args.sets.now c.loop-i.left c.loop-i.i (omega arith) (omega arith) c.loop-i.invariant
