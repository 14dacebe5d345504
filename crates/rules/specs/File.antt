-- The file of a catalogue, and its refusals.
use Rattle.std.specs.Prelude.{ℕ, zero, suc, ◌+◌, ◌*◌, ◌/◌, ◌%◌, Bool, true, false, cond, not, ◌&&◌, ◌||◌, List, [], ◌∷◌, ◌++◌, length, take, drop, Some, None, Option, ◌==◌, nat_lt}
use Rattle.std.specs.List.{flat_map}
use Rattle.space.specs.Row.{Row}
use Rattle.rules.specs.Rows.{rising}
use Rattle.rules.specs.Refusals.{Refusal, refused_at, when, when_at, ◌else◌, bad_letter}

-- a number in so many bytes, the low byte first, and back
abbrev pub bytes_of : ℕ → ℕ → List ℕ
bytes_of zero x = []
bytes_of (suc k) x = x % 256 ∷ bytes_of k (x / 256)

abbrev pub number_of : List ℕ → ℕ
number_of [] = 0
number_of (b ∷ bs) = b + 256 * number_of bs

-- a file begins with d and the sizes
abbrev pub header : List ℕ → List ℕ
header plan = length plan ∷ plan

-- the numbers of some rows, four bytes each, and their letters
abbrev pub number_bytes : List Row → List ℕ
number_bytes rows = flat_map (λ r. bytes_of 4 r.number) rows

abbrev pub letter_bytes : List Row → List ℕ
letter_bytes rows = flat_map (λ r. r.letters) rows

-- the file of some rows: d and the sizes, how many rows in two bytes, their numbers, their letters, in rising number
abbrev pub saved : List ℕ → List Row → List ℕ
saved plan rows =
    let rs = rising rows in
    header plan ++ (bytes_of 2 (length rs) ++ (number_bytes rs ++ letter_bytes rs))

abbrev pub begins : List ℕ → List ℕ → Bool
begins [] ys = true
begins (x ∷ xs) [] = false
begins (x ∷ xs) (y ∷ ys) = x == y && begins xs ys

-- what stands behind the plan, and how many rows it announces
abbrev pub body : List ℕ → List ℕ → List ℕ
body plan file = drop (suc (length plan)) file

abbrev pub announced : List ℕ → List ℕ → ℕ
announced plan file = number_of (take 2 (body plan file))

-- n rows of d letters, read from their numbers and their letters
abbrev pub rows_from : ℕ → ℕ → List ℕ → List ℕ → List Row
rows_from zero d numbers letters = []
rows_from (suc n) d numbers letters =
    record { number = number_of (take 4 numbers); letters = take d letters } ∷ rows_from n d (drop 4 numbers) (drop d letters)

abbrev pub file_rows : List ℕ → List ℕ → List Row
file_rows plan file =
    let n = announced plan file in
    rows_from n (length plan) (drop 2 (body plan file)) (drop (2 + 4 * n) (body plan file))

-- 7: the first row, counted from i, whose number is 0 or not above the one before
abbrev pub bad_number : ℕ → ℕ → List Row → Option Refusal
bad_number i last [] = None
bad_number i last (r ∷ rs) = cond (nat_lt last r.number) (bad_number (suc i) r.number rs) (Some (refused_at 7 0 i))

-- 9: the first row, counted from i, with a letter not below its size
abbrev pub bad_row : ℕ → List ℕ → List Row → Option Refusal
bad_row i plan [] = None
bad_row i plan (r ∷ rs) = when_at 9 (bad_letter 1 plan r.letters) i else bad_row (suc i) plan rs

-- how many bytes n rows of d letters take, with the two that announce them
abbrev pub body_length : ℕ → ℕ → ℕ
body_length d n = 2 + 4 * n + d * n

-- 4: not the plan; 5: too short; 6: too long; 7, 9; 23: more rows than the capacity; 25: the catalogue has rows
abbrev pub of_load : List ℕ → ℕ → List Row → List ℕ → Option Refusal
of_load plan capacity rows file =
    let long = length (body plan file) in
    let n = announced plan file in
    when (not (begins (header plan) file)) 4
    else when (nat_lt long 2 || nat_lt long (body_length (length plan) n)) 5
    else when (nat_lt (body_length (length plan) n) long) 6
    else bad_number 1 0 (file_rows plan file)
    else bad_row 1 plan (file_rows plan file)
    else when (nat_lt capacity n) 23
    else when (not (length rows == 0)) 25
