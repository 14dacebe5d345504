-- What holds of a tree in its table.
use Rattle.std.specs.Prelude.{◌≡◌, ℕ, suc, ◌+◌, ◌/◌, ◌≤◌, max, false, List, length, is_some}
use Rattle.space.specs.Row.{stored_rows}
use Rattle.space.specs.Plans.{plan_fault, vector_fault}
use Rattle.rules.specs.Tree.{rows_in}
use Rattle.rules.specs.Build.{Build}
use Rattle.rules.specs.Enter.{entered_all}
use Rattle.rules.specs.Withdraw.{withdrawn}
use Rattle.rules.specs.Finds.{Once}
use Rattle.std.specs.List.{AllByRecursion}
use Rattle.tree.specs.declared.node.Node.{Node}
use Rattle.tree.specs.Nodes.{spot, Sound, tree_of}
use Rattle.tree.specs.Leaving.{keyed, EachOnce}

-- how many places a table has beyond the boxes that it is asked for: entering a clip hands down as many as the tree is high, and two
abbrev pub reserve : ℕ
reserve = 8

-- The tree of height h at the place i of the table N, whose free places are those of the stack F from t on, has at most c rows; there is room
-- for a tree of so many.
pub record Stands (d c : ℕ) (N : List Node) (F : List ℕ) (t h i : ℕ) : Type 0 where
  pub axes : d ≤ 10
  pub most : c ≤ 4096
  pub room : max 1 (c / 2) + reserve ≤ length N
  pub stack : length F ≡ length N
  pub sound : Sound N (suc h) (spot i)
  pub spread : EachOnce N F t h i
  pub high : t ≤ length F
  pub build : Build d (tree_of d N h i)
  pub rows : length (rows_in (tree_of d N h i)) ≤ c

-- the rows of a tree
abbrev pub rows_of : ℕ → List Node → ℕ → ℕ → ℕ
rows_of d N h i = length (rows_in (tree_of d N h i))

-- the clips of the first k of n keys of the worklist W entered one after the other
pub record EnteredAgain (d : ℕ) (N M : List Node) (F W : List ℕ) (h i n k u g j : ℕ) : Type 0 where
  pub tree : tree_of d M g j ≡ entered_all d (tree_of d N h i) (stored_rows d (keyed W k))
  pub rows : rows_of d M g j ≡ rows_of d N h i + k
  pub stands : Stands d (rows_of d N h i + n) M F u g j

-- the number withdrawn: the table M, with the stack G, is N, with the stack F, after it
pub record Withdrew (d : ℕ) (N M : List Node) (F G : List ℕ) (t h i number u g j : ℕ) : Type 0 where
  pub long : length M ≡ length N
  pub tree : tree_of d M g j ≡ withdrawn d (tree_of d N h i) number
  pub stands : (c : ℕ) → Stands d c N F t h i → Stands d c M G u g j

-- What an index keeps: a plan without fault, a tree that stands, of as many rows as are counted, each with a vector of the plan, no number twice
-- and none above the highest.
pub record Whole (plan : List ℕ) (capacity clips highest : ℕ) (N : List Node) (F : List ℕ) (t h i : ℕ) : Type 0 where
  pub fit : is_some (plan_fault plan) ≡ false
  pub sizes : AllByRecursion (λ s. s ≤ 64) plan
  pub stands : Stands (length plan) capacity N F t h i
  pub once : Once (rows_in (tree_of (length plan) N h i))
  pub count : clips ≡ rows_of (length plan) N h i
  pub below : AllByRecursion (λ r. r.number ≤ highest) (rows_in (tree_of (length plan) N h i))
  pub proper : AllByRecursion (λ r. is_some (vector_fault plan r.letters) ≡ false) (rows_in (tree_of (length plan) N h i))
