-- Lists of rows.
use Rattle.std.specs.Prelude.{ℕ, Bool, false, cond, ◌||◌, List, [], ◌∷◌, ◌==◌, nat_lt}
use Rattle.ranked.specs.Rank.{ranked}
use Rattle.space.specs.Row.{Row}

-- a row of that number is among the rows
abbrev pub lists : ℕ → List Row → Bool
lists n [] = false
lists n (r ∷ rs) = r.number == n || lists n rs

-- the rows but those of that number
abbrev pub without : ℕ → List Row → List Row
without n [] = []
without n (r ∷ rs) = cond (r.number == n) (without n rs) (r ∷ without n rs)

-- the rows in rising numbers
abbrev pub lower : Row → Row → Bool
lower r s = nat_lt r.number s.number

abbrev pub rising : List Row → List Row
rising rows = ranked lower rows
