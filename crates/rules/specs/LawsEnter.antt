-- What entering a clip keeps.
use Rattle.std.specs.Prelude.{◌≡◌, ℕ, suc, ◌<◌, ◌≤◌, true, false, List, [], ◌∷◌, ◌++◌, length}
use Rattle.ranked.specs.Same.{Same}
use Rattle.rules.specs.Division.{group, divides, division}
use Rattle.space.specs.Row.{Row}
use Rattle.rules.specs.Tree.{Entry, Tree, boxed, empty, rows_below, rows_in, boxes_in}
use Rattle.rules.specs.Build.{Below, Build}
use Rattle.rules.specs.Enter.{entered, entered_all}

-- the division's code divides; no other fact about the division is used below
abbrev pub DivisionDivides : Type 0
DivisionDivides = (d : ℕ) (boxes : List (List ℕ)) → (divides (division d boxes) ≡ true) × (division d boxes < 512)

-- the two boxes that a code makes of some entries
abbrev pub two_by : ℕ → (h : ℕ) → ℕ → List (Entry h) → List (Entry (suc h))
two_by d h code es = boxed d h (group false code es) ∷ boxed d h (group true code es) ∷ []

-- Nine entries that any code that divides makes two boxes of: both have the build, and together the same rows.
abbrev pub DividingBuilds : Type 0
DividingBuilds = (d h code : ℕ) (es : List (Entry h)) → length es ≡ 9 → divides code ≡ true → code < 512 → Below d h es
    → Below d (suc h) (two_by d h code es) × Same (rows_below h es) (rows_below (suc h) (two_by d h code es))

-- an empty tree has the build, and a tree that has it still has it with a clip more
abbrev pub EnteringBuilds : Type 0
EnteringBuilds = ((d : ℕ) → Build d (empty d)) × ((d : ℕ) (t : Tree) (r : Row) → Build d t → Build d (entered d t r))

-- its rows are then those before and the new one, in some order; and so with many clips, one after the other
abbrev pub EnteringAdds : Type 0
EnteringAdds =
    ((d : ℕ) (t : Tree) (r : Row) → Build d t → Same (r ∷ rows_in t) (rows_in (entered d t r)))
    × ((d : ℕ) (t : Tree) (rs : List Row) → Build d t → Build d (entered_all d t rs) × Same (rs ++ rows_in t) (rows_in (entered_all d t rs)))

-- and it has no fewer boxes
abbrev pub EnteringBoxes : Type 0
EnteringBoxes = (d : ℕ) (t : Tree) (r : Row) → Build d t → boxes_in t ≤ boxes_in (entered d t r)
