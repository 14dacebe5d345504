use Rattle.std.proofs.Common.{◌+◌, ◌*◌}
use Rattle.tree.proofs.nodes.+Nodes-is_listed+fn-Nodes-is_listed-any.Given as goal

abbrev pub decreases-Nodes::is_listed : goal.decreases-Nodes::is_listed
decreases-Nodes::is_listed l = 2 * l.height

abbrev pub decreases-any : goal.decreases-any
decreases-any l = 2 * l.below + 1
