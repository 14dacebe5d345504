use Rattle.std.proofs.Common.{take}
use Rattle.tree.proofs.Packs.{Keys}
use Rattle.tree.proofs.aside.order_asides.Given as goal

abbrev pub invariant-loop-i : goal.invariant-loop-i
invariant-loop-i l = Keys (take l.n l.fn.words) l.word-items l.i
