-- The build of a tree.
use Rattle.std.specs.Prelude.{◌≡◌, ℕ, zero, suc, ◌≤◌, List, [], ◌∷◌, map, length}
use Rattle.space.specs.Boxes.{around}
use Rattle.rules.specs.Tree.{Box, Entry, Tree, sets_of}

-- the box is the smallest around its entries
abbrev pub Smallest : ℕ → (h : ℕ) → Box (Entry h) → Type 0
Smallest d h b = b.sets ≡ around d (map (sets_of h) b.entries)

-- each box among some entries, and each below it: 3 to 8 entries, and the smallest around them
abbrev pub Below : ℕ → (h : ℕ) → List (Entry h) → Type 0
Below d zero es = Unit {0}
Below d (suc h) [] = Unit {0}
Below d (suc h) (b ∷ bs) =
    (3 ≤ length b.entries) × (length b.entries ≤ 8) × Smallest d h b × Below d h b.entries × Below d (suc h) bs

-- how many entries a root of height h has at least: an inner one 2
abbrev pub fewest : ℕ → ℕ
fewest zero = 0
fewest (suc h) = 2

-- that the leaves are equally deep is in the type of a tree
pub record Build (d : ℕ) (t : Tree) : Type 0 where
  pub few : fewest t.0 ≤ length t.1.entries
  pub many : length t.1.entries ≤ 8
  pub root : Smallest d t.0 t.1
  pub below : Below d t.0 t.1.entries
