use Rattle.measures.specs.Bars.{Spared}
use Rattle.measures.proofs.bar.spare.Given as goal

abbrev pub invariant-loop-i : goal.invariant-loop-i
invariant-loop-i l = Spared l.bars l.sets l.left l.i
