-- An index as it is seen.
use Rattle.std.specs.Prelude.{ℕ, ◌-◌, List, length, take, vec_items, vec_len}
use Rattle.rules.specs.Tree.{Tree}
use Rattle.rules.specs.State.{Seen, standing}
use Rattle.tree.specs.declared.index.Index.{Index}
use Rattle.tree.specs.Nodes.{tree_of}
use Rattle.tree.specs.Standing.{reserve}

abbrev pub plan_of : Index → List ℕ
plan_of x = take x.nodes.dims x.sizes

abbrev pub tree_in : Index → Tree
tree_in x = tree_of (length (plan_of x)) (vec_items x.nodes.places) x.root.height x.root.place

abbrev pub seen_index : Index → Seen
seen_index x = standing (plan_of x) x.capacity (tree_in x)

-- how many boxes its table was made for
abbrev pub index_boxes : Index → ℕ
index_boxes x = vec_len x.nodes.places - reserve
