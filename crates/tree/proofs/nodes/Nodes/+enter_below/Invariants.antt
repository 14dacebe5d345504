use Rattle.tree.proofs.nodes.Nodes.+enter_below.Given as goal

abbrev pub decreases-enter_below : goal.decreases-enter_below
decreases-enter_below l = l.at.height
