-- The parts of a file, as the functions that take it apart hand them on.
use Rattle.std.specs.Prelude.{◌≡◌, ℕ, ◌+◌, ◌*◌, ◌<◌, true, false, List, [], length, take, drop, None}
use Rattle.std.specs.Simd.{first_chunks}
use Rattle.space.specs.Row.{Row}
use Rattle.rules.specs.File.{number_of, header, begins, body}
use Rattle.file.specs.declared.fault.FileFault.{FileFault}
use Rattle.file.specs.declared.fault.FileFault.TheVariants.{Plan}
use Rattle.file.specs.Checked.{length_fault}

-- the file begins with the plan, and this is what follows
pub record Planned (plan file rest : List ℕ) : Type 0 where
  pub starts : begins (header plan) file ≡ true
  pub behind : rest ≡ body plan file
  pub few : length plan < 256

-- the file does not begin with the plan, and that is the fault
abbrev pub Unplanned : List ℕ → List ℕ → FileFault → Type 0
Unplanned plan file e = (begins (header plan) file ≡ false) × (e ≡ Plan)

-- the row of a number in four bytes, without its letters
abbrev pub numbered : List ℕ → Row
numbered bytes = record { number = number_of bytes; letters = [] }

-- what follows a plan of d sizes is as long as its rows ask for: their numbers, as many as there are rows, and their letters
pub record Cut (d : ℕ) (rest : List ℕ) (numbers : List (List ℕ)) (letters : List ℕ) : Type 0 where
  pub fits : length_fault d rest ≡ None
  pub announces : length numbers ≡ number_of (take 2 rest)
  pub front : numbers ≡ first_chunks 4 (length numbers) (drop 2 rest)
  pub back : letters ≡ drop (2 + 4 * length numbers) rest
  pub many : length letters ≡ d * length numbers
