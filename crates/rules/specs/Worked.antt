-- Worked cases, as one table.
use Rattle.std.specs.Prelude.{◌≡◌, ℕ, List, [], ◌∷◌, Some, None}
use Rattle.space.specs.Boxes.{area_of, common_of}
use Rattle.space.specs.Row.{Row}
use Rattle.measures.specs.Hammings.{hamming_distance, hamming_floor}
use Rattle.measures.specs.Gehs.{geh_distance, geh_floor, geh_grade}
use Rattle.measures.specs.Layers.{bar_distance, bar_floor}
use Rattle.measures.specs.Counts.{count_at}
use Rattle.rules.specs.Choice.{growth, chosen}
use Rattle.rules.specs.Division.{division}
use Rattle.rules.specs.File.{saved}
use Rattle.rules.specs.Finds.{ranking}

abbrev pub row : ℕ → List ℕ → Row
row n v = record { number = n; letters = v }

-- four clips, of which 3 have letter 0 and 1 letter 1 in the first dimension, and all letter 0 in the second
abbrev pub four : List Row
four = row 1 (0 ∷ 0 ∷ []) ∷ row 2 (0 ∷ 0 ∷ []) ∷ row 3 (0 ∷ 0 ∷ []) ∷ row 4 (1 ∷ 0 ∷ []) ∷ []

abbrev pub counted : ℕ → ℕ → ℕ
counted i l = count_at i l four

-- letter 1 of dimension 2 is barred
abbrev pub ten_bars : List ℕ
ten_bars = 0 ∷ 2 ∷ 0 ∷ 0 ∷ 0 ∷ 0 ∷ 0 ∷ 0 ∷ 0 ∷ 0 ∷ []

-- the entries {0},{0,1} and {1},{2}
abbrev pub entries : List (List ℕ)
entries = (1 ∷ 3 ∷ []) ∷ (2 ∷ 4 ∷ []) ∷ []

-- nine boxes of one dimension
abbrev pub nine : ℕ → ℕ → ℕ → List (List ℕ)
nine a b c = (a ∷ []) ∷ (a ∷ []) ∷ (a ∷ []) ∷ (b ∷ []) ∷ (b ∷ []) ∷ (b ∷ []) ∷ (c ∷ []) ∷ (c ∷ []) ∷ (c ∷ []) ∷ []

-- Dimensions and places count from 0 here, so that place 1 is the second entry.
abbrev pub Worked : Type 0
Worked =
    (hamming_distance (0 ∷ 1 ∷ 2 ∷ []) (0 ∷ 3 ∷ 2 ∷ []) ≡ Some 1)
    × (hamming_floor (0 ∷ 1 ∷ []) (2 ∷ 3 ∷ []) ≡ Some 1)
    × (counted 0 0 ≡ 3)
    × (counted 0 1 ≡ 1)
    × (counted 1 0 ≡ 4)
    × (geh_distance 2 4 counted (0 ∷ 0 ∷ []) (0 ∷ 0 ∷ []) ≡ Some 1)
    × (geh_distance 2 4 counted (0 ∷ 0 ∷ []) (1 ∷ 0 ∷ []) ≡ Some 8)
    × (geh_distance 2 4 counted (0 ∷ 0 ∷ []) (0 ∷ 1 ∷ []) ≡ Some 9)
    × (geh_grade 2 4 1 ≡ 0)
    × (geh_grade 2 4 8 ≡ 1)
    × (geh_grade 2 4 9 ≡ 1)
    × (geh_floor 2 4 counted (0 ∷ 0 ∷ []) (2 ∷ 1 ∷ []) ≡ Some 8)
    × (bar_distance ten_bars hamming_distance (0 ∷ 1 ∷ []) (0 ∷ 1 ∷ []) ≡ None)
    × (bar_floor ten_bars hamming_floor (0 ∷ 1 ∷ []) (1 ∷ 2 ∷ []) ≡ None)
    × (bar_floor ten_bars hamming_floor (0 ∷ 1 ∷ []) (1 ∷ 3 ∷ []) ≡ Some 1)
    × (area_of (3 ∷ 7 ∷ []) ≡ Some 6)
    × (common_of (3 ∷ 7 ∷ []) (2 ∷ 12 ∷ []) ≡ Some 1)
    × (common_of (3 ∷ 7 ∷ []) (4 ∷ 1 ∷ []) ≡ Some 0)
    × (growth entries (0 ∷ 2 ∷ []) 0 ≡ (0, 1, 2))
    × (growth entries (0 ∷ 2 ∷ []) 1 ≡ (0, 1, 1))
    × (chosen entries (0 ∷ 2 ∷ []) ≡ 1)
    × (division 1 (nine 1 2 4) ≡ 56)
    × (division 1 (nine 1 1 1) ≡ 14)
    × (ranking (λ r. hamming_distance (0 ∷ 3 ∷ []) r.letters) (row 7 (0 ∷ 3 ∷ []) ∷ row 5 (0 ∷ 3 ∷ []) ∷ row 6 (1 ∷ 3 ∷ []) ∷ [])
    ≡ record { distance = 0; clip = 5 } ∷ record { distance = 0; clip = 7 } ∷ record { distance = 1; clip = 6 } ∷ [])
    × (saved (4 ∷ 4 ∷ []) (row 9 (1 ∷ 3 ∷ []) ∷ row 5 (0 ∷ 3 ∷ []) ∷ [])
    ≡ 2 ∷ 4 ∷ 4 ∷ 2 ∷ 0 ∷ 5 ∷ 0 ∷ 0 ∷ 0 ∷ 9 ∷ 0 ∷ 0 ∷ 0 ∷ 0 ∷ 3 ∷ 1 ∷ 3 ∷ [])
