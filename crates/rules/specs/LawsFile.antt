-- What is saved is read back, is not refused, and is the only file that is read so.
use Rattle.std.specs.Prelude.{◌≡◌, ℕ, ◌^◌, ◌<◌, ◌≤◌, List, [], length, None}
use Rattle.std.specs.List.{AllByRecursion}
use Rattle.space.specs.Row.{Row}
use Rattle.rules.specs.Rows.{rising}
use Rattle.rules.specs.File.{saved, file_rows, of_load}
use Rattle.rules.specs.Finds.{Once}
use Rattle.ranked.specs.Same.{Same}
use Rattle.rules.specs.Tree.{Tree, rows_in}
use Rattle.rules.specs.Register.{Call, enters, withdraws, loads, registered}
use Rattle.rules.specs.Promise.{Proper, Kept}

-- a row that fits a file of d dimensions
abbrev pub FitsFile : ℕ → Row → Type 0
FitsFile d r = (r.number < 2 ^ 32) × (length r.letters ≡ d)

-- a proper row whose number is one of 32 bits
abbrev pub PossibleRow : List ℕ → Row → Type 0
PossibleRow plan r = (r.number < 2 ^ 32) × Proper plan r

-- the rows of a saved file are those saved, in rising number
abbrev pub SavedReads : Type 0
SavedReads = (plan : List ℕ) (rows : List Row) → AllByRecursion (FitsFile (length plan)) rows → length rows ≤ 65535 → file_rows plan (saved plan rows) ≡ rising rows

-- a saved file is not refused by an empty catalogue with room for it
abbrev pub SavedLoads : Type 0
SavedLoads = (plan : List ℕ) (capacity : ℕ) (rows : List Row) → AllByRecursion (PossibleRow plan) rows → Once rows → length rows ≤ 65535 → length rows ≤ capacity
    → of_load plan capacity [] (saved plan rows) ≡ None

-- a file of bytes that is not refused is the one that is saved of its rows
abbrev pub LoadedSaves : Type 0
LoadedSaves = (plan : List ℕ) (capacity : ℕ) (file : List ℕ) → AllByRecursion (λ b. b < 256) file → of_load plan capacity [] file ≡ None → saved plan (file_rows plan file) ≡ file

-- The rows of a file of bytes that is not refused are proper, distinct and within the capacity, and the catalogue was empty.
abbrev pub LoadedProper : Type 0
LoadedProper = (plan : List ℕ) (capacity : ℕ) (rows : List Row) (file : List ℕ) → AllByRecursion (λ b. b < 256) file → of_load plan capacity rows file ≡ None
    → AllByRecursion (PossibleRow plan) (file_rows plan file) × Once (file_rows plan file) × (length (file_rows plan file) ≤ capacity) × (length rows ≡ 0)

-- a call whose arguments can be: a number of 32 bits, a file of bytes
abbrev pub Possible : Call → Type 0
Possible (enters n v) = n < 2 ^ 32
Possible (withdraws n words) = Unit {0}
Possible (loads file) = AllByRecursion (λ b. b < 256) file

-- What a catalogue that some such calls made saves, loads into an empty one of its plan and capacity, and gives the same rows.
abbrev pub RunsSave : Type 0
RunsSave = (plan : List ℕ) (capacity : ℕ) (calls : List Call) (t : Tree) → Kept plan capacity calls t → AllByRecursion Possible calls → capacity ≤ 65535
    → (of_load plan capacity [] (saved plan (rows_in t)) ≡ None)
    × Same (registered plan capacity [] calls) (file_rows plan (saved plan (rows_in t)))
