use Rattle.std.proofs.Common.{◌-◌}
use Rattle.tree.proofs.SetsAside.{Walk}
use Rattle.tree.proofs.nodes.Nodes.+set_aside.Given as goal

abbrev pub decreases-set_aside : goal.decreases-set_aside
decreases-set_aside l = l.height

abbrev pub invariant-loop-entry : goal.invariant-loop-entry
invariant-loop-entry l =
    Walk l.self.places.items (l.height - 1) l.at l.entry-items l.initial.worklist.words.now l.worklist.words.now l.initial.worklist.clips l.worklist.clips
    l.initial.free.places.items l.free.places.items l.fn.free.used l.free.used l.entry-index
