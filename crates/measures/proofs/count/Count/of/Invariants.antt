use Rattle.std.proofs.Common.{map, length}
use Rattle.measures.proofs.Countings.{CountedSoFar}
use Rattle.measures.proofs.count.Count.of.Given as goal

abbrev pub invariant-loop-clip : goal.invariant-loop-clip
invariant-loop-clip g l = CountedSoFar l.plan (map (g.C.Described.row (length l.plan)) l.clips) l.numbers l.clip-index
