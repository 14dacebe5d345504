-- A row of a file, as a stored clip.
use Rattle.std.specs.Prelude.{ℕ, ◌&&◌, List, [], length, Option, ◌==◌, nat_le, nat_lt, slice_index_or}
use Rattle.space.specs.Boxes.{given}
use Rattle.space.specs.Row.{Row, stored_as}
use Rattle.space.specs.declared.clip.StoredClip.{StoredClip}
use Rattle.rules.specs.File.{body, announced, file_rows, body_length}

-- what is read where there is no row
abbrev pub no_row : Row
no_row = record { number = 0; letters = [] }

-- row i, counted from 0, of a file as long as the rows that it announces ask for, of a plan of up to ten sizes
abbrev pub row_at : List ℕ → List ℕ → ℕ → Option StoredClip
row_at plan file i =
    let n = announced plan file in
    given (nat_le (length plan) 10 && (length (body plan file) == body_length (length plan) n && nat_lt i n)) (stored_as (slice_index_or (file_rows plan file) i no_row))
