-- What a load does.
use Rattle.std.specs.Prelude.{◌≡◌, ℕ, List, [], length, take}
use Rattle.space.specs.Row.{Row}
use Rattle.rules.specs.Tree.{rows_in}
use Rattle.rules.specs.Enter.{entered_all}
use Rattle.rules.specs.File.{file_rows, saved}
use Rattle.rules.specs.State.{Seen, void, standing}
use Rattle.tree.specs.declared.index.Index.{Index}
use Rattle.tree.specs.Seen.{plan_of, tree_in}
use Rattle.tree.specs.Calls.{Stays}

-- the index y is x with the first i rows of the file entered
pub record Loaded (x y : Index) (file : List ℕ) (i : ℕ) : Type 0 where
  pub stays : Stays x y
  pub tree : tree_in y ≡ entered_all (length (plan_of x)) (tree_in x) (take i (file_rows (plan_of x) file))

-- the rows of a file, by the plan that is seen
abbrev pub loaded_rows : Seen → List ℕ → List Row
loaded_rows void file = []
loaded_rows (standing plan capacity t) file = file_rows plan file

-- what is saved of what is seen is that file
abbrev pub SavesBack : Seen → List ℕ → Type 0
SavesBack void file = ⊥
SavesBack (standing plan capacity t) file = saved plan (rows_in t) ≡ file
