-- What the choice of an entry and the division of nine entries are.
use Rattle.std.specs.Prelude.{◌≡◌, ℕ, ◌/◌, ◌^◌, ◌<◌, ◌≤◌, Bool, true, false, List, [], ◌∷◌, ◌++◌, length, count_ones}
use Rattle.space.specs.Boxes.{area, join}
use Rattle.rules.specs.Choice.{commons_but, chosen, Chosen}
use Rattle.rules.specs.Division.{group, divides, division, Divided}
use Rattle.rules.specs.Tree.{Entry}
use Rattle.ranked.specs.Same.{Same}

-- no growth is negative: neither an area nor a sum of common areas falls when a box is joined
abbrev pub NeverShrinks : Type 0
NeverShrinks =
    ((a c : List ℕ) → area a ≤ area (join a c))
    × ((p : ℕ) (a c : List ℕ) (boxes : List (List ℕ)) → commons_but p a boxes ≤ commons_but p (join a c) boxes)

-- the entry that is taken is the first with the least growth, as the relation has it, and no other is
abbrev pub ChoiceFirst : Type 0
ChoiceFirst = (boxes : List (List ℕ)) (v : List ℕ) → 0 < length boxes
    → Chosen boxes v (chosen boxes v) × ((p : ℕ) → Chosen boxes v p → p ≡ chosen boxes v)

-- the division is the best of all divisions, as the relation has it, and no other is
abbrev pub DivisionBest : Type 0
DivisionBest = (d : ℕ) (boxes : List (List ℕ))
    → Divided d boxes (division d boxes) × ((code : ℕ) → Divided d boxes code → code ≡ division d boxes)

-- the first list is the second with some left out
pub data PartOf {X : Type 0} : List X → List X → Type 0 where
  end : PartOf [] []
  takes : {x : X} {xs ys : List X} → PartOf xs ys → PartOf (x ∷ xs) (x ∷ ys)
  leaves : {x : X} {xs ys : List X} → PartOf xs ys → PartOf xs (x ∷ ys)

-- The two groups of any code are together the entries, each in its order. Where the code is below 2 ^ n for n entries, the second has as
-- many entries as the code has ones. Of nine entries each group of a code that divides has 3 to 6, and the first entry is in the first.
abbrev pub DivisionGroups : Type 0
DivisionGroups = (h code : ℕ) (es : List (Entry h))
    → Same (group false code es ++ group true code es) es
    × PartOf (group false code es) es
    × PartOf (group true code es) es
    × (length (group false code es) ≤ length es)
    × (code < 2 ^ length es → length (group true code es) ≡ count_ones code)
    × (length es ≡ 9 → code < 512 → divides code ≡ true → (second : Bool) → (3 ≤ length (group second code es)) × (length (group second code es) ≤ 6))
    × ((e : Entry h) → divides code ≡ true → group false code (e ∷ es) ≡ e ∷ group false (code / 2) es)
