-- How many boxes a tree has, and how high it is.
use Rattle.std.specs.Prelude.{ℕ, ◌*◌, ◌^◌, ◌≤◌, length}
use Rattle.rules.specs.Tree.{Tree, rows_in, boxes_in}
use Rattle.rules.specs.Build.{Build}

-- a tree of two rows or more has at most half as many boxes as rows
abbrev pub FewBoxes : Type 0
FewBoxes = (d : ℕ) (t : Tree) → Build d t → 2 ≤ length (rows_in t) → 2 * boxes_in t ≤ length (rows_in t)

-- an inner root of height h stands above at least 2 × 3 ^ h rows, so that a tree of at most 4,096 rows has a height of at most 6
abbrev pub LowTree : Type 0
LowTree = (d : ℕ) (t : Tree) → Build d t → (1 ≤ t.0 → 2 * 3 ^ t.0 ≤ length (rows_in t)) × (length (rows_in t) ≤ 4096 → t.0 ≤ 6)
