-- What is read of a table.
use Rattle.std.proofs.Common.{◌≡◌, ℕ, ◌<◌, List, length, get_or, ap, ◌∙◌}
use Rattle.std.proofs.lemmas.List.{get_or_default}
use Rattle.tree.specs.declared.node.NodeEntry.{NodeEntry}
use Rattle.tree.specs.declared.node.Node.{Node}
use Rattle.tree.specs.Nodes.{node, inside, no_node}

-- a node read from a table, and its entries
module _ (N : List Node) (i : ℕ) (n : Node) (l : i < length N) (is : n ≡ get_or N i n) where
  pub read : n ≡ node N i
  read = is ∙ get_or_default N i n no_node l

  pub read_entries : (es : List NodeEntry) → es ≡ inside n → es ≡ inside (node N i)
  read_entries es e = e ∙ ap inside read
