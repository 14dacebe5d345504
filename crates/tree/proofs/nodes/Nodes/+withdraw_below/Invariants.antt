use Rattle.tree.proofs.nodes.Nodes.+withdraw_below.Given as goal

abbrev pub decreases-withdraw_below : goal.decreases-withdraw_below
decreases-withdraw_below l = l.at.height
