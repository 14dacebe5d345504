-- The rows of a library.
use Rattle.std.specs.Prelude.{ℕ, Bool, true, false, not, ◌&&◌, ◌||◌, List, [], ◌∷◌, is_some, ◌==◌}
use Rattle.space.specs.Plans.{clip_fault}
use Rattle.space.specs.Row.{Row}

-- each row is a clip of the plan
abbrev pub proper : List ℕ → List Row → Bool
proper plan [] = true
proper plan (r ∷ rs) = not (is_some (clip_fault plan r.number r.letters)) && proper plan rs

-- a row has the number
abbrev pub listed : ℕ → List Row → Bool
listed n [] = false
listed n (r ∷ rs) = r.number == n || listed n rs

-- no number stands twice
abbrev pub distinct : List Row → Bool
distinct [] = true
distinct (r ∷ rs) = not (listed r.number rs) && distinct rs
