-- The bytes of a file of some rows, and where they are written.
use Rattle.std.specs.Prelude.{ℕ, ◌+◌, ◌&&◌, List, ◌++◌, length, take, drop, Some, None, Option, nat_le}
use Rattle.space.specs.Boxes.{dimensions, given}
use Rattle.space.specs.Row.{Row, stored_rows}
use Rattle.space.specs.declared.clip.StoredClip.{StoredClip}
use Rattle.rules.specs.File.{bytes_of, header, number_bytes, letter_bytes, body_length}

-- d and the sizes, how many rows in two bytes, their numbers, their letters
abbrev pub written : List ℕ → List Row → List ℕ
written plan rs = header plan ++ (bytes_of 2 (length rs) ++ (number_bytes rs ++ letter_bytes rs))

-- how many bytes n rows of d letters take with their plan
abbrev pub file_length : ℕ → ℕ → ℕ
file_length d n = 1 + d + body_length d n

-- some bytes in place of those that stood there, from a place on; the others are as they were
abbrev pub put : ℕ → List ℕ → List ℕ → List ℕ
put at bytes slots = take at slots ++ (bytes ++ drop (at + length bytes) slots)

-- the length of the file of n rows, where a plan of d sizes, the rows and the room allow for it
abbrev pub written_length : ℕ → ℕ → ℕ → Option ℕ
written_length d n room = given (dimensions d && (nat_le n 65535 && nat_le (file_length d n) room)) (file_length d n)

-- the output after the call: the file at its front, or else as it was
abbrev pub output_after : List ℕ → List StoredClip → List ℕ → Option ℕ → List ℕ
output_after plan clips slots None = slots
output_after plan clips slots (Some n) =
    let bytes = written plan (stored_rows (length plan) clips) in
    bytes ++ drop (length bytes) slots
