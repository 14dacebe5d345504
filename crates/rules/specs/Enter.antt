-- How a clip enters the tree.
use Rattle.std.specs.Prelude.{ℕ, zero, suc, true, false, cond, List, [], ◌∷◌, ◌++◌, map, length, Some, None, Option, nat_le, slice_index_or, slice_set}
use Rattle.rules.specs.Choice.{chosen}
use Rattle.rules.specs.Division.{group, division}
use Rattle.space.specs.Row.{Row}
use Rattle.rules.specs.Tree.{Box, Entry, Tree, sets_of, boxed}

-- a box and, where it had to be divided, a second one
abbrev pub Grown : ℕ → Type 0
Grown h = Box (Entry h) × Option (Box (Entry h))

abbrev pub extra : {E : Type 0} → Option E → List E
extra None = []
extra (Some e) = e ∷ []

-- nine entries divided by a code: the first group stays, the second becomes a new box
abbrev pub parted : ℕ → (h : ℕ) → List (Entry h) → ℕ → Grown h
parted d h es code = (boxed d h (group false code es), Some (boxed d h (group true code es)))

-- a box of up to eight entries, or nine divided
abbrev pub fitted : ℕ → (h : ℕ) → List (Entry h) → Grown h
fitted d h es = cond (nat_le (length es) 8) (boxed d h es, None) (parted d h es (division d (map (sets_of h) es)))

abbrev pub entries_at : (h : ℕ) → List (Entry (suc h)) → ℕ → List (Entry h)
entries_at h es p = (slice_index_or es p (record { sets = []; entries = [] })).entries

-- The clip goes last in its leaf; a new box goes last in its parent.
abbrev pub enter_below : ℕ → (h : ℕ) → List (Entry h) → Row → Grown h
enter_below d zero es r = fitted d zero (es ++ r ∷ [])
enter_below d (suc h) es r =
    let p = chosen (map (sets_of (suc h)) es) r.letters in
    let g = enter_below d h (entries_at h es p) r in
    fitted d (suc h) (slice_set es p g.0 ++ extra g.1)

-- a divided root gets a new root over both
abbrev pub rooted : ℕ → (h : ℕ) → Box (Entry h) → Option (Box (Entry h)) → Tree
rooted d h a None = (h, a)
rooted d h a (Some b) = (suc h, boxed d (suc h) (a ∷ b ∷ []))

abbrev pub entered : ℕ → Tree → Row → Tree
entered d t r = let g = enter_below d t.0 t.1.entries r in rooted d t.0 g.0 g.1

abbrev pub entered_all : ℕ → Tree → List Row → Tree
entered_all d t [] = t
entered_all d t (r ∷ rs) = entered_all d (entered d t r) rs
