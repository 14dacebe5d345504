-- The tree of a catalogue.
use Rattle.std.specs.Prelude.{ℕ, zero, suc, ◌+◌, List, [], ◌∷◌, ◌++◌, map}
use Rattle.space.specs.Boxes.{around, point}
use Rattle.space.specs.Row.{Row}

-- a box of the tree: its sets of letters, and its entries
pub record Box (E : Type 0) : Type 0 where
  pub sets : List ℕ
  pub entries : List E

-- What a box of height h has for entries: clips in a leaf, which has height 0, and boxes of height h in a box of height h + 1.
abbrev pub Entry : ℕ → Type 0
Entry zero = Row
Entry (suc h) = Box (Entry h)

-- a tree: the root's height, which is how deep every leaf lies, and the root
abbrev pub Tree : Type 0
Tree = (h : ℕ) × Box (Entry h)

abbrev pub sets_of : (h : ℕ) → Entry h → List ℕ
sets_of zero r = point r.letters
sets_of (suc h) b = b.sets

-- the smallest box around some entries, of d dimensions
abbrev pub boxed : ℕ → (h : ℕ) → List (Entry h) → Box (Entry h)
boxed d h es = record { sets = around d (map (sets_of h) es); entries = es }

-- an empty catalogue: a root that is an empty leaf
abbrev pub empty : ℕ → Tree
empty d = (0, boxed d 0 [])

-- the clips of the leaves below some entries, from the first to the last
abbrev pub rows_below : (h : ℕ) → List (Entry h) → List Row
rows_below zero es = es
rows_below (suc h) [] = []
rows_below (suc h) (b ∷ bs) = rows_below h b.entries ++ rows_below (suc h) bs

abbrev pub rows_in : Tree → List Row
rows_in t = rows_below t.0 t.1.entries

-- how many boxes there are, from one with these entries down
abbrev pub boxes_from : (h : ℕ) → List (Entry h) → ℕ
boxes_from zero es = 1
boxes_from (suc h) [] = 1
boxes_from (suc h) (b ∷ bs) = boxes_from h b.entries + boxes_from (suc h) bs

abbrev pub boxes_in : Tree → ℕ
boxes_in t = boxes_from t.0 t.1.entries
