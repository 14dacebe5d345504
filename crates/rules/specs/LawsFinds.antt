-- What the ranking of rows and the hits within a radius are.
use Rattle.std.specs.Prelude.{◌≡◌, ℕ, ◌<◌, ◌≤◌, List, length, take, Option, slice_index_or}
use Rattle.ranked.specs.declared.find.Find.{Find}
use Rattle.ranked.specs.Same.{Same}
use Rattle.space.specs.Boxes.{filled}
use Rattle.space.specs.Row.{Row}
use Rattle.rules.specs.Finds.{ranking, within, hits_of, hit_count, Once, Stands, Comes, FirstOf}

-- the front of the ranking is the first k, of rows with distinct numbers
abbrev pub RankingFirst : Type 0
RankingFirst = (dist : Row → Option ℕ) (rows : List Row) (k : ℕ) → Once rows → FirstOf dist rows k (take k (ranking dist rows))

-- and no other list is
abbrev pub RankingOnly : Type 0
RankingOnly = (dist : Row → Option ℕ) (rows : List Row) (k : ℕ) → Once rows → (finds : List Find) → FirstOf dist rows k finds
    → finds ≡ take k (ranking dist rows)

-- the ranking does not turn on the order of the rows
abbrev pub RankingSame : Type 0
RankingSame = (dist : Row → Option ℕ) (rows others : List Row) → Same rows others → ranking dist rows ≡ ranking dist others

-- the hits are all rows within the radius, in the order of finds
abbrev pub HitsAll : Type 0
HitsAll = (dist : Row → Option ℕ) (radius : ℕ) (rows : List Row) → Once rows
    → FirstOf (within dist radius) rows (length rows) (hits_of dist radius rows)

-- a find stands among the hits if it comes from the rows and is not above the radius, and only then
abbrev pub HitsWithin : Type 0
HitsWithin = (dist : Row → Option ℕ) (radius : ℕ) (rows : List Row) (f : Find)
    → (Stands f (hits_of dist radius rows) → Comes dist rows f × (f.distance ≤ radius))
    × (Comes dist rows f → f.distance ≤ radius → Stands f (hits_of dist radius rows))

-- there are as many hits as rows within the radius
abbrev pub HitsCounted : Type 0
HitsCounted = (dist : Row → Option ℕ) (radius : ℕ) (rows : List Row) → length (hits_of dist radius rows) ≡ hit_count dist radius rows

-- The slots are as many as before: each that a find goes to has that find, and each after the finds has what it had.
abbrev pub FilledSlots : Type 0
FilledSlots = (finds slots : List Find)
    → (length (filled finds slots) ≡ length slots)
    × ((i : ℕ) (f : Find) → i < length finds → i < length slots → slice_index_or (filled finds slots) i f ≡ slice_index_or finds i f)
    × ((i : ℕ) (f : Find) → length finds ≤ i → i < length slots → slice_index_or (filled finds slots) i f ≡ slice_index_or slots i f)
