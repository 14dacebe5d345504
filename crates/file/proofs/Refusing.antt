-- The faults of files are the refusals of loads.
use Rattle.std.proofs.Common.{◌≡◌, ℕ, suc, ◌+◌, ◌*◌, Bool, true, false, cond, not, ◌||◌, eqb, ltb, List, [], ◌∷◌, length, drop, Some, None, Ok, Option, sym, refl, ap, ◌∙◌, ap₂, arith}
use Rattle.std.specs.Option.{option_map}
use Rattle.std.proofs.lemmas.Bool.Decides.{nat_tests}
use Rattle.space.specs.Row.{Row}
use Rattle.space.specs.Plans.{letter_fault}
use Rattle.rules.specs.Refusals.{Refusal, when, when_at, ◌else◌, bad_letter}
use Rattle.rules.specs.File.{begins, header, body, announced, file_rows, bad_number, bad_row, body_length}
use Rattle.file.specs.declared.fault.RowFault.{RowFault}
use Rattle.file.specs.declared.fault.FileFault.{FileFault}
use Rattle.file.specs.declared.fault.FileFault.TheVariants as fault
use Rattle.file.specs.Faults.{file_refusal}
use Rattle.file.specs.Checked.{first, in_row, number_fault, letters_fault, length_fault, file_fault, so_many}
use Rattle.file.specs.LawsFile.{after_check, LoadsRefuse, CheckedRows, FileFaultsRefuse}
use Rattle.file.proofs.Listed.{length_rows}

abbrev row_refusal : RowFault → Refusal
row_refusal f = file_refusal (fault.Row f)

-- ---- the rows, counted from above 0
number_refused : (i last : ℕ) (rs : List Row) → option_map row_refusal (number_fault i last rs) ≡ bad_number i last rs
number_refused i last [] = refl
number_refused i last (r ∷ rs) = let more = number_refused (suc i) r.number rs in grind (arith, nat_tests)

letter_refused : (row i : ℕ) (sizes v : List ℕ) → option_map row_refusal (in_row row (letter_fault (suc i) sizes v)) ≡ when_at 9 (bad_letter (suc i) sizes v) row
letter_refused row i sizes [] = refl
letter_refused row i [] (l ∷ v) = grind (arith, nat_tests)
letter_refused row i (s ∷ sizes) (l ∷ v) = let more = letter_refused row (suc i) sizes v in grind (arith, nat_tests)

row_refused : (i : ℕ) (plan : List ℕ) (rs : List Row) → option_map row_refusal (letters_fault i plan rs) ≡ bad_row i plan rs
row_refused i plan [] = refl
row_refused i plan (r ∷ rs) =
    go (in_row i (letter_fault 1 plan r.letters)) ∙ ap₂ (λ a b. a else b) (letter_refused i 0 plan r.letters) (row_refused (suc i) plan rs)
  where
    go : (o : Option RowFault) → option_map row_refusal (first o (letters_fault (suc i) plan rs)) ≡ (option_map row_refusal o else option_map row_refusal (letters_fault (suc i) plan rs))
    go None = refl
    go (Some f) = refl

-- ---- the checks, one by one: t is what the later ones refuse
module _ (t : Option Refusal) where
  plan_first : (b : Bool) (o : Option FileFault) → (option_map file_refusal (cond b o (Some fault.Plan)) else t) ≡ (when (not b) 4 else (option_map file_refusal o else t))
  plan_first true o = refl
  plan_first false o = refl

  length_next : (short long : Bool) (o : Option FileFault)
      → (option_map file_refusal (first (cond short (Some fault.Short) (cond long (Some fault.Long) None)) o) else t) ≡ (when short 5 else (when long 6 else (option_map file_refusal o else t)))
  length_next true long o = refl
  length_next false true o = refl
  length_next false false o = refl

  rows_last : (n v : Option RowFault) → (option_map file_refusal (option_map fault.Row (first n v)) else t) ≡ (option_map row_refusal n else (option_map row_refusal v else t))
  rows_last (Some f) v = refl
  rows_last None (Some f) = refl
  rows_last None None = refl

after_check_lem : (capacity : ℕ) (rows : List Row) (n : ℕ) (o : Option FileFault)
    → (option_map file_refusal o else (when (ltb capacity n) 23 else when (not (eqb (length rows) 0)) 25)) ≡ after_check capacity rows (so_many n o)
after_check_lem capacity rows n None = refl
after_check_lem capacity rows n (Some f) = refl

pub loads_refuse : LoadsRefuse
loads_refuse plan capacity rows file =
    let b = body plan file in
    let n = announced plan file in
    let rs = file_rows plan file in
    let want = body_length (length plan) n in
    let t = when (ltb capacity n) 23 else when (not (eqb (length rows) 0)) 25 in
    let start = begins (header plan) file in
    let short = ltb (length b) 2 || ltb (length b) want in
    let long = ltb want (length b) in
    let nf = number_fault 1 0 rs in
    let vf = letters_fault 1 plan rs in
    sym (
    sym (after_check_lem capacity rows n (file_fault plan file))
    ∙ plan_first t start (first (length_fault (length plan) b) (option_map fault.Row (first nf vf)))
    ∙ ap (λ x. when (not start) 4 else x) (
    length_next t short long (option_map fault.Row (first nf vf))
    ∙ ap (λ x. when short 5 else (when long 6 else x)) (rows_last t nf vf ∙ ap₂ (λ x y. x else (y else t)) (number_refused 1 0 rs) (row_refused 1 plan rs))
    )
    )

pub checked_rows : CheckedRows
checked_rows plan file n e =
    let is = so_many_lem (file_fault plan file) e in
    (is, length_rows (announced plan file) (length plan) (drop 2 (body plan file)) (drop (2 + 4 * announced plan file) (body plan file)) ∙ sym is)
  where
    so_many_lem : (o : Option FileFault) → so_many (announced plan file) o ≡ Ok n → n ≡ announced plan file
    so_many_lem None e = cc
    so_many_lem (Some f) e = cc

pub file_faults_refuse : FileFaultsRefuse
file_faults_refuse = (loads_refuse, checked_rows)
