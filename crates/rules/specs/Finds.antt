-- What a search finds among some rows. A row's distance is a number, or none; it is given as a function of the row.
use Rattle.std.specs.Prelude.{◌≡◌, ℕ, ◌<◌, ◌≤◌, Bool, true, false, ◌⊎◌, List, [], ◌∷◌, length, get_or, Some, None, count_by, Option, ◌≢◌, nat_le, slice_index_or}
use Rattle.std.specs.List.{flat_map}
use Rattle.ranked.specs.declared.find.Find.{Find}
use Rattle.ranked.specs.Find.{ahead}
use Rattle.ranked.specs.Rank.{ranked}
use Rattle.space.specs.Row.{Row}
use Rattle.measures.specs.Layers.{up_to}

-- the find of the clip with the number n at a distance; none without a distance
abbrev pub hit : Option ℕ → ℕ → List Find
hit None n = []
hit (Some x) n = record { distance = x; clip = n } ∷ []

-- the finds of some rows, in the order of the rows
abbrev pub finds_of : (Row → Option ℕ) → List Row → List Find
finds_of dist rows = flat_map (λ r. hit (dist r) r.number) rows

-- the rows that have a distance, in the order of finds
abbrev pub ranking : (Row → Option ℕ) → List Row → List Find
ranking dist rows = ranked ahead (finds_of dist rows)

-- a row's distance, where it is not above the radius
abbrev pub within : (Row → Option ℕ) → ℕ → Row → Option ℕ
within dist radius r = up_to radius (dist r)

-- the hits within a radius, in the order of finds
abbrev pub hits_of : (Row → Option ℕ) → ℕ → List Row → List Find
hits_of dist radius rows = ranking (within dist radius) rows

-- a number that is not above the radius
abbrev pub near : ℕ → Option ℕ → Bool
near radius None = false
near radius (Some x) = nat_le x radius

-- how many rows lie within the radius
abbrev pub hit_count : (Row → Option ℕ) → ℕ → List Row → ℕ
hit_count dist radius rows = count_by (λ r. near radius (dist r)) rows

-- no number stands twice
abbrev pub Once : List Row → Type 0
Once rows = (i j : ℕ) (r : Row) → i < j → j < length rows → (get_or rows i r).number ≢ (get_or rows j r).number

-- a find stands among the finds
abbrev pub Stands : Find → List Find → Type 0
Stands f finds = (i : ℕ) × (i < length finds) × (slice_index_or finds i f ≡ f)

-- a find comes from some rows: one of them has its number, and its distance
abbrev pub Comes : (Row → Option ℕ) → List Row → Find → Type 0
Comes dist rows f =
    (j : ℕ) × (j < length rows) × ((r : Row) → ((get_or rows j r).number ≡ f.clip) × (dist (slice_index_or rows j r) ≡ Some f.distance))

-- The first k clips that have a distance, said of the rows and not of how the finds are come by: there are at most k; each is a row with its
-- distance; they rise; and each row with a distance is a find, or there are k finds and it comes after all of them.
pub record FirstOf (dist : Row → Option ℕ) (rows : List Row) (k : ℕ) (finds : List Find) : Type 0 where
  pub most : length finds ≤ k
  pub known : (i : ℕ) (f : Find) → i < length finds → Comes dist rows (slice_index_or finds i f)
  pub rises : (i j : ℕ) (f : Find) → i < j → j < length finds → ahead (slice_index_or finds i f) (slice_index_or finds j f) ≡ true
  pub rest : (j : ℕ) (r : Row) (x : ℕ) → j < length rows → dist (slice_index_or rows j r) ≡ Some x
      → let new : Find = record { distance = x; clip = (get_or rows j r).number } in
      Stands new finds ⊎ ((length finds ≡ k) × ((i : ℕ) (f : Find) → i < length finds → ahead (slice_index_or finds i f) new ≡ true))
