-- How a clip leaves the tree.
use Rattle.std.specs.Prelude.{ℕ, zero, suc, cond, List, [], ◌∷◌, ◌++◌, length, take, drop, nat_lt, slice_set}
use Rattle.space.specs.Row.{Row}
use Rattle.rules.specs.Tree.{Entry, Tree, boxed, rows_below}
use Rattle.rules.specs.Rows.{lists, without, rising}
use Rattle.rules.specs.Enter.{entries_at, entered_all}

-- the place of the first box that has the number below it
abbrev pub holder : (h : ℕ) → ℕ → List (Entry (suc h)) → ℕ
holder h n [] = 0
holder h n (b ∷ bs) = cond (lists n (rows_below h b.entries)) 0 (suc (holder h n bs))

-- What becomes of the entries es, of which the box at p was left with these entries while those clips were set aside: with fewer than 3 it is
-- taken out and its clips are set aside too, else it shrinks to the smallest box.
abbrev pub kept : ℕ → (h : ℕ) → List (Entry (suc h)) → ℕ → List (Entry h) → List Row → List (Entry (suc h)) × List Row
kept d h es p left aside =
    cond (nat_lt (length left) 3) (take p es ++ drop (suc p) es, aside ++ rows_below h left) (slice_set es p (boxed d h left), aside)

-- the entries that stay when the clip of that number leaves, and the clips set aside
abbrev pub withdraw_below : ℕ → (h : ℕ) → List (Entry h) → ℕ → List (Entry h) × List Row
withdraw_below d zero es n = (without n es, [])
withdraw_below d (suc h) es n =
    let p = holder h n es in
    let rest = withdraw_below d h (entries_at h es p) n in
    kept d h es p rest.0 rest.1

-- an inner root with one entry gives way to that entry
abbrev pub settled : ℕ → (h : ℕ) → List (Entry h) → Tree
settled d zero es = (zero, boxed d zero es)
settled d (suc h) [] = (suc h, boxed d (suc h) [])
settled d (suc h) (b ∷ []) = (h, b)
settled d (suc h) (b ∷ c ∷ bs) = (suc h, boxed d (suc h) (b ∷ c ∷ bs))

-- the clips set aside are entered again, in rising number
abbrev pub withdrawn : ℕ → Tree → ℕ → Tree
withdrawn d t n =
    let rest = withdraw_below d t.0 t.1.entries n in
    entered_all d (settled d t.0 rest.0) (rising rest.1)
