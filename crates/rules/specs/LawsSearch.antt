-- What the searches over a tree find and open.
use Rattle.std.specs.Prelude.{◌≡◌, ℕ, zero, suc, ◌≤◌, true, cond, List, [], ◌∷◌, ◌++◌, length, take, Option}
use Rattle.std.specs.List.{AllByRecursion}
use Rattle.space.specs.Boxes.{dimensions, small}
use Rattle.space.specs.Row.{Row}
use Rattle.measures.specs.Floor.{FloorRule}
use Rattle.rules.specs.Tree.{Entry, Tree, rows_in, boxes_in}
use Rattle.rules.specs.Build.{Build}
use Rattle.rules.specs.Finds.{ranking, hits_of, near}
use Rattle.rules.specs.Search.{reach, opened_in}
use Rattle.rules.specs.Machine.{Ruled, searched, walked}

-- The search from the root finds the first k of the ranking and opens just the boxes that a search within the kth distance opens, or within the
-- largest radius if finds are fewer. Floors need not rise down the tree.
abbrev pub SearchFinds : Type 0
SearchFinds = (dist : Row → Option ℕ) (floor : List ℕ → Option ℕ) (k : ℕ) (t : Tree) → 1 ≤ k → Ruled dist floor t.0 t.1.entries
    → let finds = take k (ranking dist (rows_in t)) in
    searched (boxes_in t) dist floor k [] 0 ((0, t) ∷ []) ≡ (finds, opened_in floor (reach k finds) t)

-- a row's letters are a vector of d dimensions
abbrev pub Vector : ℕ → Row → Type 0
Vector d r = (length r.letters ≡ d) × (small r.letters ≡ true)

-- A measure's rule, at one query, holds of every box of a tree of the build whose rows are vectors of d dimensions, d from 1 to 10.
abbrev pub RulesHold : Type 0
RulesHold = (distances floors : List ℕ → List ℕ → Option ℕ) → FloorRule distances floors → (q : List ℕ) (d : ℕ) (t : Tree) → dimensions d ≡ true
    → Build d t → AllByRecursion (Vector d) (rows_in t) → Ruled (λ r. distances q r.letters) (floors q) t.0 t.1.entries

-- the rows of the leaves that a search within the radius opens
abbrev pub visited : (List ℕ → Option ℕ) → ℕ → (h : ℕ) → List (Entry h) → List Row
visited floor radius zero es = es
visited floor radius (suc h) [] = []
visited floor radius (suc h) (b ∷ bs) = cond (near radius (floor b.sets)) (visited floor radius h b.entries) [] ++ visited floor radius (suc h) bs

-- no hit is left out: the hits among the rows visited are those among all rows
abbrev pub VisitedHits : Type 0
VisitedHits = (dist : Row → Option ℕ) (floor : List ℕ → Option ℕ) (radius : ℕ) (t : Tree) → Ruled dist floor t.0 t.1.entries
    → hits_of dist radius (visited floor radius t.0 t.1.entries) ≡ hits_of dist radius (rows_in t)

-- the search within a radius finds all hits, and opens just the boxes with near floors
abbrev pub WalkFinds : Type 0
WalkFinds = (dist : Row → Option ℕ) (floor : List ℕ → Option ℕ) (radius : ℕ) (t : Tree) → Ruled dist floor t.0 t.1.entries
    → walked (boxes_in t) dist floor radius [] 0 (t ∷ []) ≡ (hits_of dist radius (rows_in t), opened_in floor radius t)
