-- How often each letter stands in each dimension.
use Rattle.std.specs.Prelude.{◌≡◌, ℕ, ◌+◌, ◌<◌, Bool, true, cond, not, ◌&&◌, List, [], ◌∷◌, length, is_some, ◌==◌, nat_le, nat_lt, slice_index, slice_index_or}
use Rattle.space.specs.Row.{Row}
use Rattle.space.specs.Plans.{plan_fault, vector_fault}

-- the number in row i and column l of a table, 0 where there is none
abbrev pub number_at : List (List ℕ) → ℕ → ℕ → ℕ
number_at numbers i l = slice_index (slice_index_or numbers i []) l

-- a table of ten rows of 64, one for each dimension
abbrev pub Shaped : List (List ℕ) → Type 0
Shaped t = (length t ≡ 10) × ((i : ℕ) → i < 10 → length (slice_index_or t i []) ≡ 64)

-- one letter of a vector: 1 where it has the letter l in dimension i, from 0
abbrev pub one_at : ℕ → ℕ → List ℕ → ℕ
one_at i l v = cond (nat_lt i (length v) && slice_index v i == l) 1 0

-- how many of the rows have the letter l in dimension i
abbrev pub count_at : ℕ → ℕ → List Row → ℕ
count_at i l [] = 0
count_at i l (r ∷ rs) = one_at i l r.letters + count_at i l rs

-- each row has a vector of the plan
abbrev pub of_plan : List ℕ → List Row → Bool
of_plan plan [] = true
of_plan plan (r ∷ rs) = not (is_some (vector_fault plan r.letters)) && of_plan plan rs

-- what can be counted: 1 to 4,096 rows of one plan
abbrev pub limits : List ℕ → ℕ → Bool
limits plan n = not (is_some (plan_fault plan)) && (nat_le 1 n && nat_le n 4096)

abbrev pub countable : List ℕ → List Row → Bool
countable plan rows = limits plan (length rows) && of_plan plan rows
