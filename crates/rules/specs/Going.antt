-- What holds while a search for the k nearest goes on. It is kept by opening any box that waits with the least floor, so a program may keep
-- the boxes that wait in any order.
use Rattle.std.specs.Prelude.{◌≡◌, ℕ, ◌+◌, ◌≤◌, cond, List, [], ◌∷◌, ◌++◌, length, take, Option, nat_le}
use Rattle.std.specs.List.{flat_map, AllByRecursion}
use Rattle.space.specs.Row.{Row}
use Rattle.rules.specs.Tree.{Tree, rows_in, boxes_in}
use Rattle.ranked.specs.declared.find.Find.{Find}
use Rattle.ranked.specs.Find.{ahead}
use Rattle.ranked.specs.Rank.{InRank, ranked}
use Rattle.ranked.specs.Same.{Same}
use Rattle.rules.specs.Finds.{finds_of, ranking, within}
use Rattle.rules.specs.Search.{reach, opened_in}
use Rattle.rules.specs.Machine.{Wait, Ruled}

abbrev pub total : {X : Type 0} → (X → ℕ) → List X → ℕ
total f [] = 0
total f (x ∷ xs) = f x + total f xs

-- the finds below a box that waits
abbrev pub finds_in : (Row → Option ℕ) → Wait → List Find
finds_in dist w = finds_of dist (rows_in w.1)

-- how many boxes a search within the radius opens from a box that waits
abbrev pub opens_at : (List ℕ → Option ℕ) → ℕ → Wait → ℕ
opens_at floor radius w = cond (nat_le w.0 radius) (opened_in floor radius w.1) 0

-- the answer
abbrev pub nearest_in : (Row → Option ℕ) → ℕ → Tree → List Find
nearest_in dist k t = take k (ranking dist (rows_in t))

-- F is found, n boxes are opened, and W waits, of a search for the k nearest in t
pub record Going (dist : Row → Option ℕ) (floor : List ℕ → Option ℕ) (k : ℕ) (t : Tree) (F : List Find) (n : ℕ) (W : List Wait) : Type 0 where
  pub nears : InRank ahead F
  pub short : length F ≤ k
  pub small : AllByRecursion (λ w. w.0 ≤ 4294967295) W
  pub ruled : AllByRecursion (λ w. Ruled dist floor w.1.0 w.1.1.entries) W
  pub bounds : AllByRecursion (λ w. AllByRecursion (λ y. w.0 ≤ y.distance) (finds_in dist w)) W
  pub finds : take k (ranked ahead (F ++ flat_map (finds_in dist) W)) ≡ nearest_in dist k t
  pub opens : n + total (opens_at floor (reach k (nearest_in dist k t))) W ≡ opened_in floor (reach k (nearest_in dist k t)) t
  pub sizes : n + total (λ w. boxes_in w.1) W ≤ boxes_in t

-- What holds while a search within a radius goes on, in whatever order boxes are opened and hits are kept: H are the hits so far, n boxes are
-- opened, and W waits.
pub record Walking (dist : Row → Option ℕ) (floor : List ℕ → Option ℕ) (radius : ℕ) (t : Tree) (H : List Find) (n : ℕ) (W : List Tree) : Type 0 where
  pub ruled : AllByRecursion (λ s. Ruled dist floor s.0 s.1.entries) W
  pub finds : Same (H ++ flat_map (λ s. finds_of (within dist radius) (rows_in s)) W) (finds_of (within dist radius) (rows_in t))
  pub opens : n + total (opened_in floor radius) W ≡ opened_in floor radius t
  pub sizes : n + total boxes_in W ≤ boxes_in t
