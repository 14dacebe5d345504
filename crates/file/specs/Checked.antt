-- What is at fault in a file, and how many rows a file without fault has.
use Rattle.std.specs.Prelude.{ℕ, suc, cond, ◌||◌, List, [], ◌∷◌, length, take, Some, None, Ok, Err, Option, Result, nat_lt}
use Rattle.std.specs.Option.{option_map}
use Rattle.space.specs.Row.{Row}
use Rattle.space.specs.Plans.{letter_fault}
use Rattle.space.specs.declared.plan.ClipFault.{ClipFault}
use Rattle.space.specs.declared.plan.ClipFault.TheVariants.{Number}
use Rattle.rules.specs.File.{number_of, header, begins, body, announced, file_rows, body_length}
use Rattle.file.specs.declared.fault.RowFault.{RowFault}
use Rattle.file.specs.declared.fault.FileFault.{FileFault}
use Rattle.file.specs.declared.fault.FileFault.TheVariants as fault

-- the first of two faults that is there
abbrev pub first : {F : Type 0} → Option F → Option F → Option F
first None b = b
first (Some f) b = Some f

-- the fault of a clip that is row i
abbrev pub in_row : ℕ → Option ClipFault → Option RowFault
in_row i fault = option_map (λ f. record { row = i; fault = f }) fault

-- the first row, counted from i, whose number is 0 or not above the one before
abbrev pub number_fault : ℕ → ℕ → List Row → Option RowFault
number_fault i last [] = None
number_fault i last (r ∷ rs) = cond (nat_lt last r.number) (number_fault (suc i) r.number rs) (in_row i (Some Number))

-- the first row, counted from i, with a letter not below its size
abbrev pub letters_fault : ℕ → List ℕ → List Row → Option RowFault
letters_fault i plan [] = None
letters_fault i plan (r ∷ rs) = first (in_row i (letter_fault 1 plan r.letters)) (letters_fault (suc i) plan rs)

-- what stands behind a plan of d sizes is shorter or longer than the rows that it announces ask for
abbrev pub length_fault : ℕ → List ℕ → Option FileFault
length_fault d rest =
    let long = length rest in
    let want = body_length d (number_of (take 2 rest)) in
    cond (nat_lt long 2 || nat_lt long want) (Some fault.Short) (cond (nat_lt want long) (Some fault.Long) None)

-- the plan, the length, then the numbers of all rows, then the letters of all rows
abbrev pub file_fault : List ℕ → List ℕ → Option FileFault
file_fault plan file =
    let rows = file_rows plan file in
    cond (begins (header plan) file)
    (first (length_fault (length plan) (body plan file)) (option_map fault.Row (first (number_fault 1 0 rows) (letters_fault 1 plan rows))))
    (Some fault.Plan)

-- so many, where there is no fault
abbrev pub so_many : {F : Type 0} → ℕ → Option F → Result ℕ F
so_many n None = Ok n
so_many n (Some f) = Err f

abbrev pub checked : List ℕ → List ℕ → Result ℕ FileFault
checked plan file = so_many (announced plan file) (file_fault plan file)
