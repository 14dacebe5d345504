use Rattle.measures.proofs.Tallies.{Tallied}
use Rattle.measures.proofs.counting.count_letters.Given as goal

abbrev pub invariant-loop-i : goal.invariant-loop-i
invariant-loop-i l = Tallied l.initial.numbers l.letters l.numbers l.i
