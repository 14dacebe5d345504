-- Measures that are a sum over the dimensions.
use Rattle.std.specs.Prelude.{◌≡◌, ℕ, suc, ◌+◌, ◌≤◌, Bool, true, ◌&&◌, List, [], ◌∷◌, length, Option, ◌==◌}
use Rattle.space.specs.Boxes.{has, dimensions, small, given}

-- of one d, from 1 to 10
abbrev pub one_d : ℕ → ℕ → Bool
one_d a b = dimensions a && a == b

-- two vectors of one d, letters up to 63
abbrev pub vectors : List ℕ → List ℕ → Bool
vectors q v = one_d (length q) (length v) && (small q && small v)

-- a vector and a box of one d, letters up to 63
abbrev pub vector_and_box : List ℕ → List ℕ → Bool
vector_and_box q b = one_d (length q) (length b) && small q

-- the sum over the dimensions, from dimension i, of what the query's letter costs beside a letter or a set
abbrev pub costs : (ℕ → ℕ → ℕ → ℕ) → ℕ → List ℕ → List ℕ → ℕ
costs cost i [] ys = 0
costs cost i (x ∷ xs) [] = 0
costs cost i (x ∷ xs) (y ∷ ys) = cost i x y + costs cost (suc i) xs ys

-- the sum, of two vectors, or of a vector and a box; else none
abbrev pub vector_costs : (ℕ → ℕ → ℕ → ℕ) → List ℕ → List ℕ → Option ℕ
vector_costs cost q v = given (vectors q v) (costs cost 0 q v)

abbrev pub box_costs : (ℕ → ℕ → ℕ → ℕ) → List ℕ → List ℕ → Option ℕ
box_costs cost q b = given (vector_and_box q b) (costs cost 0 q b)

-- What the costs of a dimension keep: a set costs no more than each of its letters, and nothing costs more than 10 × 4,096.
pub record CostRule (letters sets : ℕ → ℕ → ℕ → ℕ) : Type 0 where
  pub under : (i a b m : ℕ) → has m b ≡ true → b ≤ 63 → sets i a m ≤ letters i a b
  pub letters_most : (i a b : ℕ) → letters i a b ≤ 40960
  pub sets_most : (i a m : ℕ) → sets i a m ≤ 40960
