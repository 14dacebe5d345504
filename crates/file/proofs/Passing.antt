-- What is known of a file without fault, and of a row that is read from it.
use Rattle.std.proofs.Common.{◌≡◌, ℕ, zero, suc, ◌-◌, ◌<◌, ◌≤◌, Bool, true, false, cond, ◌&&◌, eqb, ltb, leb, List, [], ◌∷◌, length, get_or, replicate, Some, None, Ok, sym, refl, ap, ◌∙◌, subst, arith}
use Rattle.std.specs.List.{AllByRecursion}
use Rattle.std.proofs.ByRecursion.{All-get_or, All-append}
use Rattle.std.proofs.lemmas.List.{take_at, get_or_default}
use Rattle.std.proofs.lemmas.Bool.{and_parts, ltb-true, leb-true, le-ltb}
use Rattle.space.specs.Boxes.{given, dimensions}
use Rattle.space.specs.Row.{Row, stored_row}
use Rattle.space.specs.Plans.{plan_fault, size_fault}
use Rattle.space.specs.declared.plan.PlanFault.TheVariants as plan
use Rattle.space.specs.declared.clip.StoredClip.{StoredClip}
use Rattle.rules.specs.Refusals.{bad_letter}
use Rattle.rules.specs.File.{body, announced, file_rows, body_length, of_load}
use Rattle.rules.proofs.Refused.{none_else, none_when}
use Rattle.rules.proofs.Files.{Checked, none_checked, checked_long}
use Rattle.file.specs.Checked.{checked}
use Rattle.file.specs.Reads.{no_row, row_at}
use Rattle.space.specs.Row.{stored_as}
use Rattle.file.specs.LawsFile.{after_check, RowsRead}
use Rattle.file.proofs.Refusing.{loads_refuse, checked_rows}
use Rattle.file.proofs.Readings.{row_stored}

-- a file without fault is not refused by an empty catalogue with room for its rows
pub checked_loads : (plan file : List ℕ) (n : ℕ) → checked plan file ≡ Ok n → of_load plan n [] file ≡ None
checked_loads plan file n e = loads_refuse plan n [] file ∙ ap (after_check n []) e ∙ none_else _ _ (none_when (ltb n n) 23 (le-ltb n n (omega arith))) refl

-- so it was checked for all of these
pub checked_passes : (plan file : List ℕ) (n : ℕ) → checked plan file ≡ Ok n → Checked plan n [] file
checked_passes plan file n e = none_checked plan n [] file (checked_loads plan file n e)

-- a row that is stored is the same row
pub stored_same : (d : ℕ) (r : Row) → length r.letters ≡ d → stored_row d (stored_as r) ≡ r
stored_same d r e = ap (λ v. record { number = r.number; letters = v }) (take_at r.letters (replicate (10 - length r.letters) 0) d e)

module _ (plan file : List ℕ) (n i : ℕ) (e : checked plan file ≡ Ok n) (h : i < n) where
  row_here : i < length (file_rows plan file)
  row_here = let l = (checked_rows plan file n e).1 in omega arith

  pub row_letters : length (get_or (file_rows plan file) i no_row).letters ≡ length plan
  row_letters =
      All-get_or (λ r. length r.letters ≡ length plan) (file_rows plan file) i no_row row_here (checked_long plan n [] file (checked_passes plan file n e))

  pub row_above : 0 < (get_or (file_rows plan file) i no_row).number
  row_above = All-get_or (λ r. 0 < r.number) (file_rows plan file) i no_row row_here (checked_passes plan file n e).numbers.0

  pub row_good : bad_letter 1 plan (get_or (file_rows plan file) i no_row).letters ≡ 0
  row_good = All-get_or (λ r. bad_letter 1 plan r.letters ≡ 0) (file_rows plan file) i no_row row_here (checked_passes plan file n e).letters

  pub row_given : length plan ≤ 10 → row_at plan file i ≡ Some (stored_as (get_or (file_rows plan file) i no_row))
  row_given w = row_stored plan file i w (checked_passes plan file n e).long (let a = (checked_rows plan file n e).0 in omega arith)

pub rows_read : RowsRead
rows_read plan file n i none w e h =
    let rows = file_rows plan file in
    let c = stored_as (get_or rows i no_row) in (
      c,
      row_given plan file n i e h w,
      stored_same (length plan) (get_or rows i no_row) (row_letters plan file n i e h) ∙ get_or_default rows i no_row none (let l = (checked_rows plan file n e).1 in omega arith),
    )

-- ---- a row that was read
given_some : {X : Type 0} (t : Bool) (x y : X) → given t x ≡ Some y → (t ≡ true) × (x ≡ y)
given_some true x y e = (refl, cc)
given_some false x y e = cc

module _ (plan file : List ℕ) (i : ℕ) (c : StoredClip) (r : row_at plan file i ≡ Some c) where
  read_parts : (i < announced plan file) × (stored_as (get_or (file_rows plan file) i no_row) ≡ c)
  read_parts =
      let n = announced plan file in
      let long = eqb (length (body plan file)) (body_length (length plan) n) in
      let p = given_some (leb (length plan) 10 && (long && ltb i n)) (stored_as (get_or (file_rows plan file) i no_row)) c r in
      (ltb-true i n (and_parts long (ltb i n) (and_parts (leb (length plan) 10) (long && ltb i n) p.0).1).1, p.1)

letters_small : (i : ℕ) (sizes v : List ℕ) → AllByRecursion (λ s. s ≤ 64) sizes → bad_letter (suc i) sizes v ≡ 0 → AllByRecursion (λ l. l < 64) v
letters_small i sizes [] a e = tt
letters_small i [] (l ∷ v) a e = absurd (omega arith)
letters_small i (s ∷ sizes) (l ∷ v) a e = go (λ x. letters_small (suc i) sizes v a.1 x) (ltb l s) refl e
  where
    go : (bad_letter (suc (suc i)) sizes v ≡ 0 → AllByRecursion (λ x. x < 64) v) → (t : Bool) → ltb l s ≡ t
        → cond t (bad_letter (suc (suc i)) sizes v) (suc i) ≡ 0 → AllByRecursion (λ x. x < 64) (l ∷ v)
    go more true t e = ((let k = ltb-true l s t in let b = a.0 in omega arith), more e)
    go more false t e = absurd (omega arith)

zeros_small : (m : ℕ) → AllByRecursion (λ l. l < 64) (replicate m 0)
zeros_small zero = tt
zeros_small (suc m) = (omega arith, zeros_small m)

all_small : (v : List ℕ) → AllByRecursion (λ l. l < 64) v → (k : ℕ) → get_or v k 0 < 64
all_small [] a k = omega arith
all_small (l ∷ v) a zero = a.0
all_small (l ∷ v) a (suc k) = all_small v a.1 k

module _ (plan file : List ℕ) (n i : ℕ) (c : StoredClip) (e : checked plan file ≡ Ok n) (r : row_at plan file i ≡ Some c) where
  pub read_index : i < n
  read_index = let a = (checked_rows plan file n e).0 in let b = (read_parts plan file i c r).0 in omega arith

  -- it is the row of the file
  pub read_row : (none : Row) → stored_row (length plan) c ≡ get_or (file_rows plan file) i none
  read_row none =
      let rows = file_rows plan file in
      ap (stored_row (length plan)) (sym (read_parts plan file i c r).1)
      ∙ stored_same (length plan) (get_or rows i no_row) (row_letters plan file n i e read_index)
      ∙ get_or_default rows i no_row none (row_here plan file n i e read_index)

  -- its number is from 1 on
  pub read_number : 1 ≤ c.number
  read_number =
      let a = ap (λ (x : StoredClip). x.number) (read_parts plan file i c r).1 in
      let b = row_above plan file n i e read_index in
      omega arith

  -- all its ten letters are letters, where the sizes of the plan are at most 64
  pub read_small : AllByRecursion (λ s. s ≤ 64) plan → (k : ℕ) → get_or c.letters k 0 < 64
  read_small a =
      let row = get_or (file_rows plan file) i no_row in
      all_small c.letters (subst (λ (x : StoredClip). AllByRecursion (λ l. l < 64) x.letters) (read_parts plan file i c r).1
      (All-append (λ l. l < 64) row.letters (replicate (10 - length row.letters) 0)
      (letters_small 0 plan row.letters a (row_good plan file n i e read_index)) (zeros_small (10 - length row.letters))))

-- ---- a plan without fault has 1 to 10 sizes up to 64
sizes_small : (i : ℕ) (sizes : List ℕ) → size_fault i sizes ≡ None → AllByRecursion (λ s. s ≤ 64) sizes
sizes_small i [] e = tt
sizes_small i (s ∷ sizes) e = go (λ x. sizes_small (suc i) sizes x) (leb 1 s && leb s 64) refl e
  where
    go : (size_fault (suc i) sizes ≡ None → AllByRecursion (λ x. x ≤ 64) sizes) → (t : Bool) → (leb 1 s && leb s 64) ≡ t
        → cond t (size_fault (suc i) sizes) (Some (plan.Size i)) ≡ None → AllByRecursion (λ x. x ≤ 64) (s ∷ sizes)
    go more true t e = (leb-true s 64 (and_parts (leb 1 s) (leb s 64) t).1, more e)
    go more false t e = cc

pub plan_small : (sizes : List ℕ) → plan_fault sizes ≡ None → AllByRecursion (λ s. s ≤ 64) sizes
plan_small sizes e = go (dimensions (length sizes)) e
  where
    go : (t : Bool) → cond t (size_fault 1 sizes) (Some plan.Dimensions) ≡ None → AllByRecursion (λ s. s ≤ 64) sizes
    go true e = sizes_small 1 sizes e
    go false e = cc
