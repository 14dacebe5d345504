use Rattle.std.proofs.Common.{◌-◌}
use Rattle.tree.proofs.Listings.{Copying}
use Rattle.tree.proofs.nodes.Nodes.+copy_clips.Given as goal

abbrev pub decreases-copy_clips : goal.decreases-copy_clips
decreases-copy_clips l = l.height

abbrev pub invariant-loop-entry : goal.invariant-loop-entry
invariant-loop-entry l = Copying l.self.places.items (l.height - 1) l.entries l.initial.out l.out l.many l.entry-index
