use Rattle.measures.specs.Sums.{Summed}
use Rattle.measures.proofs.cost.box_cost.Given as goal

abbrev pub invariant-loop-i : goal.invariant-loop-i
invariant-loop-i g l = Summed (g.C.Cost.set_costs l.cost) l.query l.sets l.i l.sum
