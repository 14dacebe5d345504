-- A catalogue as it is seen.
use Rattle.std.specs.Prelude.{ℕ, None, Some, Option}
use Rattle.rules.specs.Tree.{Tree, empty}
use Rattle.rules.specs.State.{Seen, void, standing}
use Rattle.tree.specs.Seen.{seen_index, index_boxes}
use Rattle.catalogue.specs.declared.catalogue.Catalogue.{Catalogue}
use Rattle.tree.specs.declared.index.Index.{Index}

-- a catalogue without an index is void
abbrev pub seen_in : Option Index → Seen
seen_in None = void
seen_in (Some x) = seen_index x

abbrev pub seen_of : Catalogue → Seen
seen_of c = seen_in c.index

-- how many boxes its table was made for; a void one has none
abbrev pub boxes_in : Option Index → ℕ
boxes_in None = 0
boxes_in (Some x) = index_boxes x

abbrev pub boxes_of : Catalogue → ℕ
boxes_of c = boxes_in c.index

-- the tree that is seen
abbrev pub seen_tree : Seen → Tree
seen_tree void = empty 0
seen_tree (standing plan capacity t) = t
