use Rattle.scan.specs.Distances.{far_by}
use Rattle.scan.proofs.Scanned.{Scanned}
use Rattle.scan.proofs.nearest.Given as goal

abbrev pub invariant-loop-clip : goal.invariant-loop-clip
invariant-loop-clip g l = Scanned (far_by (g.M.Measure.distances l.measure) l.query) l.clips l.initial.slots l.slots l.found l.clip-index
