-- Every clip below a box lies in it.
use Rattle.std.specs.Prelude.{◌≡◌, ℕ, zero, suc, true, List, [], ◌∷◌}
use Rattle.std.specs.List.{AllByRecursion}
use Rattle.space.specs.Boxes.{in_box}
use Rattle.space.specs.Row.{Row}
use Rattle.rules.specs.Tree.{Entry, Tree, rows_below, rows_in}
use Rattle.rules.specs.Build.{Build}
use Rattle.rules.specs.LawsSearch.{Vector}

-- the row lies in the sets
abbrev pub Lies : List ℕ → Row → Type 0
Lies b r = in_box r.letters b ≡ true

-- each row below one of these boxes lies in its sets, and so on down
abbrev pub Holds : (h : ℕ) → List (Entry h) → Type 0
Holds zero es = Unit {0}
Holds (suc h) [] = Unit {0}
Holds (suc h) (b ∷ bs) = AllByRecursion (Lies b.sets) (rows_below h b.entries) × Holds h b.entries × Holds (suc h) bs

-- Under the build, where the rows are vectors of d dimensions, each row below a box lies in its sets: below the root, and below each box under it.
abbrev pub RowsHeld : Type 0
RowsHeld = (d : ℕ) (t : Tree) → Build d t → AllByRecursion (Vector d) (rows_in t)
    → AllByRecursion (Lies t.1.sets) (rows_in t) × Holds t.0 t.1.entries
