use Rattle.catalogue.specs.Loads.{Loaded}
use Rattle.catalogue.proofs.loading.enter_rows.Given as goal

abbrev pub invariant-loop-i : goal.invariant-loop-i
invariant-loop-i l = Loaded l.initial.index l.index l.file l.i
