-- What a check answers, from what its parts answer.
use Rattle.std.proofs.Common.{◌≡◌, ℕ, ◌+◌, ◌*◌, cond, List, [], map, length, take, drop, Some, None, Ok, Err, Option, Result, sym, refl, ap, ◌∙◌, ap₂}
use Rattle.std.specs.Option.{option_map}
use Rattle.space.specs.Row.{Row}
use Rattle.rules.specs.File.{number_of, body, announced, rows_from, file_rows}
use Rattle.file.specs.declared.fault.RowFault.{RowFault}
use Rattle.file.specs.declared.fault.FileFault.{FileFault}
use Rattle.file.specs.declared.fault.FileFault.TheVariants as fault
use Rattle.file.specs.Checked.{first, number_fault, letters_fault, length_fault, so_many, checked}
use Rattle.file.specs.Cut.{Planned, Cut, numbered}
use Rattle.space.proofs.Faults.{fault_none, fault_some}
use Rattle.file.proofs.Listed.{numbers_alone, letters_alone}

-- the parts of a file that begins with its plan, as a program reads them
module _ (plan file rest : List ℕ) (p : Planned plan file rest) where
  abbrev answer : Option FileFault → Option RowFault → Option RowFault → Result ℕ FileFault
  answer l n v = so_many (announced plan file) (first l (option_map fault.Row (first n v)))

  abbrev answered : Result ℕ FileFault
  answered = answer (length_fault (length plan) (body plan file)) (number_fault 1 0 (file_rows plan file)) (letters_fault 1 plan (file_rows plan file))

  checked_is : checked plan file ≡ answered
  checked_is =
      let rows = file_rows plan file in
      ap (λ t. so_many (announced plan file) (cond t (first (length_fault (length plan) (body plan file)) (option_map fault.Row (first (number_fault 1 0 rows) (letters_fault 1 plan rows)))) (Some fault.Plan))) p.starts

  module _ (numbers : List (List ℕ)) (letters : List ℕ) (c : Cut (length plan) rest numbers letters) where
    abbrev count : ℕ
    count = length numbers

    rows_are : rows_from count (length plan) (drop 2 rest) letters ≡ file_rows plan file
    rows_are =
        let rows : ℕ → List ℕ → List Row = λ k b. rows_from k (length plan) (drop 2 b) (drop (2 + 4 * k) b) in
        ap (rows_from count (length plan) (drop 2 rest)) c.back
        ∙ ap (λ k. rows k rest) c.announces
        ∙ ap (λ b. rows (number_of (take 2 b)) b) p.behind

    numbers_are : number_fault 1 0 (map numbered numbers) ≡ number_fault 1 0 (file_rows plan file)
    numbers_are =
        ap (λ N. number_fault 1 0 (map numbered N)) c.front
        ∙ sym (numbers_alone 1 0 count (length plan) (drop 2 rest) letters)
        ∙ ap (number_fault 1 0) rows_are

    letters_are : letters_fault 1 plan (rows_from count (length plan) [] letters) ≡ letters_fault 1 plan (file_rows plan file)
    letters_are = sym (letters_alone 1 count plan (drop 2 rest) letters) ∙ ap (letters_fault 1 plan) rows_are

    rows_checked : (n v : Option RowFault) → number_fault 1 0 (map numbered numbers) ≡ n
        → letters_fault 1 plan (rows_from count (length plan) [] letters) ≡ v → checked plan file ≡ answer None n v
    rows_checked n v a b =
        checked_is
        ∙ ap (λ l. answer l (number_fault 1 0 (file_rows plan file)) (letters_fault 1 plan (file_rows plan file))) (ap (length_fault (length plan)) (sym p.behind) ∙ c.fits)
        ∙ ap₂ (answer None) (sym numbers_are ∙ a) (sym letters_are ∙ b)

    pub number_fault_lem : (f : RowFault) → number_fault 1 0 (map numbered numbers) ≡ Some f → checked plan file ≡ Err (fault.Row f)
    number_fault_lem f a = rows_checked (Some f) _ a refl

    pub letter_fault : (f : RowFault) → number_fault 1 0 (map numbered numbers) ≡ None
        → letters_fault 1 plan (rows_from count (length plan) [] letters) ≡ Some f → checked plan file ≡ Err (fault.Row f)
    letter_fault f a b = rows_checked None (Some f) a b

    pub no_fault : number_fault 1 0 (map numbered numbers) ≡ None
        → letters_fault 1 plan (rows_from count (length plan) [] letters) ≡ None → checked plan file ≡ Ok count
    no_fault a b = rows_checked None None a b ∙ ap Ok (sym (c.announces ∙ ap (λ b. number_of (take 2 b)) p.behind))

pub ruleset checks = (number_fault_lem, letter_fault, no_fault, fault_none, fault_some)
