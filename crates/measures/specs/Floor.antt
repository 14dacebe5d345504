-- What every measure keeps. A distance or a floor is a number, or none.
use Rattle.std.specs.Prelude.{◌≡◌, ℕ, ◌≤◌, true, List, Some, None, Option}
use Rattle.space.specs.Boxes.{in_box, is_vector, is_box}

-- a floor and a distance: if the floor is none so is the distance; if both are numbers the floor is not above the distance
abbrev pub Under : Option ℕ → Option ℕ → Type 0
Under None None = Unit {0}
Under None (Some x) = ⊥
Under (Some f) None = Unit {0}
Under (Some f) (Some x) = f ≤ x

-- none, or at most the largest answer there is
abbrev pub Bounded : Option ℕ → Type 0
Bounded None = Unit {0}
Bounded (Some x) = x ≤ 4294967295

-- What a measure keeps, for every query: the floor rule, of every vector in a box, and the largest answer, of every vector and every box.
pub record FloorRule (distances floors : List ℕ → List ℕ → Option ℕ) : Type 0 where
  pub under : (q v b : List ℕ) → is_vector v ≡ true → is_box b ≡ true → in_box v b ≡ true → Under (floors q b) (distances q v)
  pub far : (q v : List ℕ) → is_vector v ≡ true → Bounded (distances q v)
  pub low : (q b : List ℕ) → is_box b ≡ true → Bounded (floors q b)
