use Rattle.measures.specs.Sums.{Summed}
use Rattle.measures.proofs.cost.vector_cost.Given as goal

abbrev pub invariant-loop-i : goal.invariant-loop-i
invariant-loop-i g l = Summed (g.C.Cost.letter_costs l.cost) l.query l.vector l.i l.sum
