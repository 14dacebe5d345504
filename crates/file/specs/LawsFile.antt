-- What holds of files that are checked, read and written.
use Rattle.std.specs.Prelude.{◌≡◌, ℕ, ◌<◌, ◌≤◌, not, List, length, Some, Ok, Err, Option, Result, ◌==◌, nat_lt, slice_index_or}
use Rattle.std.specs.List.{AllByRecursion}
use Rattle.space.specs.Row.{Row, stored_row}
use Rattle.space.specs.declared.clip.StoredClip.{StoredClip}
use Rattle.rules.specs.Rows.{rising}
use Rattle.rules.specs.Refusals.{Refusal, when, ◌else◌}
use Rattle.rules.specs.File.{announced, file_rows, saved, of_load}
use Rattle.file.specs.declared.fault.FileFault.{FileFault}
use Rattle.file.specs.Faults.{file_refusal}
use Rattle.file.specs.Checked.{checked}
use Rattle.file.specs.Reads.{row_at}
use Rattle.file.specs.Writes.{written, file_length}

-- a load's refusal, from what the check of its file answers
abbrev pub after_check : ℕ → List Row → Result ℕ FileFault → Option Refusal
after_check capacity rows (Err f) = Some (file_refusal f)
after_check capacity rows (Ok n) = when (nat_lt capacity n) 23 else when (not (length rows == 0)) 25

-- the faults of files are the refusals of loads
abbrev pub LoadsRefuse : Type 0
LoadsRefuse = (plan : List ℕ) (capacity : ℕ) (rows : List Row) (file : List ℕ) → of_load plan capacity rows file ≡ after_check capacity rows (checked plan file)

-- a file without fault has as many rows as it announces
abbrev pub CheckedRows : Type 0
CheckedRows = (plan file : List ℕ) (n : ℕ) → checked plan file ≡ Ok n → (n ≡ announced plan file) × (length (file_rows plan file) ≡ n)

abbrev pub FileFaultsRefuse : Type 0
FileFaultsRefuse = LoadsRefuse × CheckedRows

-- each row of a file without fault is read
abbrev pub RowsRead : Type 0
RowsRead = (plan file : List ℕ) (n i : ℕ) (none : Row) → length plan ≤ 10 → checked plan file ≡ Ok n → i < n
    → (c : StoredClip) × (row_at plan file i ≡ Some c) × (stored_row (length plan) c ≡ slice_index_or (file_rows plan file) i none)

-- What is written of rows in rising number is what is saved, and it has the length that a file of so many rows of d letters has.
abbrev pub WrittenSaves : Type 0
WrittenSaves =
    ((plan : List ℕ) (rows : List Row) → written plan (rising rows) ≡ saved plan rows)
    × ((plan : List ℕ) (rows : List Row) → AllByRecursion (λ r. length r.letters ≡ length plan) rows → length (written plan rows) ≡ file_length (length plan) (length rows))
