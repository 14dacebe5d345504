use Rattle.rules.specs.Finds.{within}
use Rattle.scan.specs.Distances.{far_by}
use Rattle.scan.proofs.Scanned.{Scanned}
use Rattle.scan.proofs.within.Given as goal

abbrev pub invariant-loop-clip : goal.invariant-loop-clip
invariant-loop-clip g l = Scanned (within (far_by (g.M.Measure.distances l.measure) l.query) l.radius) l.clips l.initial.slots l.slots l.found l.clip-index
