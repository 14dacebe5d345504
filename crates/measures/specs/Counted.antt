-- What a count holds, and what is made of it.
use Rattle.std.specs.Prelude.{◌≡◌, ℕ, ◌≤◌, true, false, List, length, Some, None, Option}
use Rattle.space.specs.Row.{Row}
use Rattle.measures.specs.Counts.{number_at, count_at, countable}
use Rattle.measures.specs.declared.count.Count.{Count}

-- c i l, both from 0
abbrev pub counted : Count → ℕ → ℕ → ℕ
counted c i l = number_at c.numbers i l

-- a count of that many dimensions and clips, with those numbers
pub record CountIs (d N : ℕ) (c : ℕ → ℕ → ℕ) (count : Count) : Type 0 where
  pub dimensions : count.dimensions ≡ d
  pub total : count.total ≡ N
  pub numbers : (i l : ℕ) → counted count i l ≡ c i l

-- the count of some rows of a plan, where they can be counted
abbrev pub Counting : List ℕ → List Row → Option Count → Type 0
Counting plan rows None = countable plan rows ≡ false
Counting plan rows (Some count) = (countable plan rows ≡ true) × CountIs (length plan) (length rows) (λ i l. count_at i l rows) count

-- no letter is counted beyond the dimensions of the plan
abbrev pub NothingBeyond : Type 0
NothingBeyond = (plan : List ℕ) (rows : List Row) → countable plan rows ≡ true → (i l : ℕ) → length plan ≤ i → count_at i l rows ≡ 0
