-- The rows of a file entered one after the other.
use Rattle.std.proofs.Common.{◌≡◌, ℕ, ◌+◌, ◌-◌, ◌<◌, ◌≤◌, false, cond, not, eqb, ltb, List, [], ◌∷◌, ◌++◌, length, get_or, take, drop, OnOk, Some, None, Ok, Err, Option, Result, sym, refl, ap, ◌∙◌, subst, ap₂, subst₂, arith}
use Rattle.std.specs.List.{AllByRecursion}
use Rattle.std.proofs.lemmas.List.{take-append-drop, take_more, take_all, drop_more, length-take-le, append-nil}
use Rattle.std.proofs.ByRecursion.{All-get_or}
use Rattle.std.proofs.lemmas.Bool.{eq-eqb, ne_eqb, lt-ltb, le-ltb}
use Rattle.space.specs.Row.{Row, stored_as}
use Rattle.space.specs.declared.clip.StoredClip.{StoredClip}
use Rattle.ranked.specs.Same.{Same, then}
use Rattle.ranked.proofs.Sames.{length_same}
use Rattle.rules.specs.Tree.{Tree, rows_in}
use Rattle.rules.specs.Rows.{lists, rising}
use Rattle.rules.specs.Enter.{entered, entered_all}
use Rattle.rules.specs.Refusals.{Refusal, refused_at, when, ◌else◌, bad_letter, of_clip, of_enter}
use Rattle.rules.specs.File.{header, bytes_of, number_bytes, letter_bytes, saved, file_rows, of_load}
use Rattle.rules.specs.Finds.{Once}
use Rattle.rules.proofs.Files.{loaded_saves, loaded_proper}
use Rattle.rules.proofs.Rankings.{once_same}
use Rattle.rules.proofs.Risings.{rising_same, rising_rises, rising_only}
use Rattle.rules.specs.Register.{enters, loads, unless, ruled}
use Rattle.rules.specs.Promise.{Proper}
use Rattle.rules.specs.State.{standing, told, after}
use Rattle.rules.proofs.Answered.{load_open}
use Rattle.rules.proofs.Refused.{none_else, none_when, none_when_at}
use Rattle.rules.proofs.Rows.{entered_all_rows}
use Rattle.rules.proofs.Times.{times, times_append, times_unlisted, lists_same}
use Rattle.file.specs.declared.fault.FileFault.{FileFault}
use Rattle.file.specs.Faults.{file_refusal}
use Rattle.file.specs.Checked.{checked}
use Rattle.file.specs.LawsFile.{after_check}
use Rattle.file.specs.Reads.{no_row, row_at}
use Rattle.file.proofs.Refusing.{loads_refuse, checked_rows}
use Rattle.file.proofs.Passing.{row_given, row_letters}
use Rattle.tree.specs.declared.index.Index.{Index}
use Rattle.tree.specs.Seen.{plan_of, tree_in, seen_index}
use Rattle.tree.specs.Calls as index
use Rattle.tree.proofs.Changes.{enter_fine}
use Rattle.tree.proofs.Wholes.{whole_of}
use Rattle.tree.proofs.Starts.{padded}
use Rattle.tree.proofs.Standings.{entered_push}
use Rattle.catalogue.specs.Loads.{Loaded, SavesBack}
use Rattle.refusals.specs.declared.refusal.Refusal.{Refusal as Held}
use Rattle.refusals.specs.Refused.{refusal_of}

-- a proper row is not refused for itself
proper_fine : (plan : List ℕ) (r : Row) → Proper plan r → of_clip plan r.number r.letters ≡ None
proper_fine plan r p =
    none_else (when (eqb r.number 0) 7) _ (none_when _ 7 (ne_eqb r.number 0 (λ e. omega (arith, p.0))))
    (none_else (when (not (eqb (length r.letters) (length plan))) 8) _ (none_when _ 8 (ap not (eq-eqb (length r.letters) (length plan) p.1))) (none_when_at 9 (bad_letter 1 plan r.letters) 0 p.2))

-- of rows no two of which have one number, a row's number is not among those before it
not_before : (rows : List Row) (i : ℕ) (d : Row) → i < length rows → ((n : ℕ) → times n rows ≤ 1) → lists (get_or rows i d).number (take i rows) ≡ false
not_before rows i d l single =
    let n = (get_or rows i d).number in
    let parts = ap (times n) (take-append-drop i rows) in
    let first = ap (times n) (drop_more rows i d l) in
    let own : times n (get_or rows i d ∷ drop (i + 1) rows) ≡ 1 + times n (drop (i + 1) rows) = ap (λ t. cond t 1 0 + times n (drop (i + 1) rows)) (eq-eqb n n refl) in
    times_unlisted n (take i rows) (omega (arith, single n, parts, times_append n (take i rows) (drop i rows), first, own))

none_listed : (rows : List Row) → length rows ≡ 0 → rows ≡ []
none_listed [] e = refl
none_listed (r ∷ rs) e = absurd (omega arith)

-- what is seen of an index has its parts
seen_plan : {p q : List ℕ} {a b : ℕ} {t u : Tree} → standing p a t ≡ standing q b u → p ≡ q
seen_plan e = cc

seen_capacity : {p q : List ℕ} {a b : ℕ} {t u : Tree} → standing p a t ≡ standing q b u → a ≡ b
seen_capacity e = cc

seen_tree : {p q : List ℕ} {a b : ℕ} {t u : Tree} → standing p a t ≡ standing q b u → t ≡ u
seen_tree e = cc

module _ (x : Index) (file : List ℕ) (fine : of_load (plan_of x) x.capacity (rows_in (tree_in x)) file ≡ None) where
  abbrev rows : List Row
  rows = file_rows (plan_of x) file

  abbrev d : ℕ
  d = length (plan_of x)

  pub load_start : Loaded x x file 0
  load_start = record { stays = record { plan = refl; capacity = refl; boxes = refl }; tree = refl }

  module _ (y : Index) (i : ℕ) (w : Loaded x y file i) (r : Row) (l : i < length (file_rows (plan_of x) file)) where
    abbrev row : Row
    row = get_or (file_rows (plan_of x) file) i r

    same : rows_in (tree_in x) ≡ []
    same = none_listed (rows_in (tree_in x)) (load_open (plan_of x) x.capacity (rows_in (tree_in x)) file fine).3

    held : Same (take i rows) (rows_in (tree_in y))
    held = subst₂ Same (ap (λ t. take i rows ++ t) same ∙ append-nil (take i rows)) (ap rows_in (sym w.tree)) (entered_all_rows d (tree_in x) (take i rows) (whole_of x).stands.build)

    new : lists row.number (rows_in (tree_in y)) ≡ false
    new = sym (lists_same row.number held) ∙ not_before rows i r l (load_open (plan_of x) x.capacity (rows_in (tree_in x)) file fine).1

    some : length (rows_in (tree_in y)) < x.capacity
    some = omega (arith, length_same held, length-take-le i rows (omega arith), (load_open (plan_of x) x.capacity (rows_in (tree_in x)) file fine).2)

    pub load_told : None ≡ told (seen_index y) (enters row.number row.letters)
    load_told =
        enter_fine (plan_of x) x.capacity (rows_in (tree_in y)) row.number row.letters
        (proper_fine (plan_of x) row (All-get_or (Proper (plan_of x)) rows i r l (load_open (plan_of x) x.capacity (rows_in (tree_in x)) file fine).0)) new some
        ∙ ap₂ (λ p c. of_enter p c (rows_in (tree_in y)) row.number row.letters) (sym w.stays.plan) (sym w.stays.capacity)

    pub load_more : (z : Index) (t : Option Refusal) → index.Does y z (enters row.number row.letters) t → Loaded x z file (i + 1)
    load_more z t does =
        let now : seen_index z ≡ standing (plan_of y) y.capacity (entered (length (plan_of y)) (tree_in y) row)
        = does.seen ∙ ap (λ a. standing (plan_of y) y.capacity (unless a (ruled (plan_of y) (tree_in y) (enters row.number row.letters)) (tree_in y))) (sym load_told) in
        record {
          stays = record { plan = seen_plan now ∙ w.stays.plan; capacity = seen_capacity now ∙ w.stays.capacity; boxes = does.boxes ∙ w.stays.boxes };
          tree = seen_tree now ∙ ap₂ (λ p u. entered (length p) u row) w.stays.plan w.tree ∙ sym (entered_push d (tree_in x) (take i rows) row)
              ∙ ap (entered_all d (tree_in x)) (sym (take_more rows i r l));
        }

  -- a row as it is read, and as it is entered
  module _ (n : ℕ) (ok : checked (plan_of x) file ≡ Ok n) (y : Index) (i : ℕ) (w : Loaded x y file i) (below : i < n) (p : List ℕ) (is : p ≡ plan_of y) where
    given_row : row_at p file i ≡ Some (stored_as (get_or (file_rows (plan_of x) file) i no_row))
    given_row = ap (λ v. row_at v file i) (is ∙ w.stays.plan) ∙ row_given (plan_of x) file n i ok below (whole_of x).stands.axes

    pub load_none : None ≡ row_at p file i → ⊥
    load_none e = let g = given_row in let z : ◌≡◌ {A = ℕ} 0 1 = cc in omega arith

    pub load_row : (clip : StoredClip) → Some clip ≡ row_at p file i → (m : ℕ) → m ≡ length (plan_of y) → (z : Index) (t : Option Refusal)
        → index.Does y z (enters clip.number (take (m - 0) clip.letters)) t → Loaded x z file (i + 1)
    load_row clip e m long z t does =
        let row = get_or (file_rows (plan_of x) file) i no_row in
        let c : clip ≡ stored_as (get_or (file_rows (plan_of x) file) i no_row) = let g = given_row in cc in
        let l : length (get_or (file_rows (plan_of x) file) i no_row).letters ≡ length (plan_of x) = row_letters (plan_of x) file n i ok below in
        let k : m - 0 ≡ length (get_or (file_rows (plan_of x) file) i no_row).letters = omega (arith, long, ap length w.stays.plan) in
        let v : take (m - 0) clip.letters ≡ (get_or (file_rows (plan_of x) file) i no_row).letters
        = ap₂ (λ j (q : StoredClip). take j q.letters) k c ∙ padded (get_or (file_rows (plan_of x) file) i no_row).letters (omega (arith, (whole_of x).stands.axes)) in
        load_more y i w no_row (omega (arith, (checked_rows (plan_of x) file n ok).1)) z t (subst₂ (λ a b. index.Does y z (enters a b) t) (ap (λ (q : StoredClip). q.number) c) v does)

  pub load_end : (y : Index) (n : ℕ) → length (file_rows (plan_of x) file) ≡ n → Loaded x y file n → tree_in y ≡ entered_all (length (plan_of x)) (tree_in x) (file_rows (plan_of x) file)
  load_end y n e w = w.tree ∙ ap (entered_all d (tree_in x)) (take_all n rows (omega arith))

-- ---- the answers of a load
module _ (plan : List ℕ) (capacity : ℕ) (rows : List Row) (file : List ℕ) where
  pub load_fault : (f : FileFault) → Err f ≡ checked plan file → Some (file_refusal f) ≡ of_load plan capacity rows file
  load_fault f e = sym (loads_refuse plan capacity rows file ∙ ap (after_check capacity rows) (sym e))

  checked_rest : (n : ℕ) → Ok n ≡ checked plan file → of_load plan capacity rows file ≡ (when (ltb capacity n) 23 else when (not (eqb (length rows) 0)) 25)
  checked_rest n e = loads_refuse plan capacity rows file ∙ ap (after_check capacity rows) (sym e)

  pub load_full : (n : ℕ) → Ok n ≡ checked plan file → capacity < n → Some (refused_at 23 0 0) ≡ of_load plan capacity rows file
  load_full n e l = sym (checked_rest n e ∙ ap (λ t. when t 23 else when (not (eqb (length rows) 0)) 25) (lt-ltb capacity n l))

  pub load_filled : (n : ℕ) → Ok n ≡ checked plan file → n ≤ capacity → (length rows ≡ 0 → ⊥) → Some (refused_at 25 0 0) ≡ of_load plan capacity rows file
  load_filled n e l m = sym (checked_rest n e ∙ ap₂ (λ t u. when t 23 else when (not u) 25) (le-ltb capacity n l) (ne_eqb (length rows) 0 m))

  pub load_fine : (n : ℕ) → Ok n ≡ checked plan file → n ≤ capacity → length rows ≡ 0 → None ≡ of_load plan capacity rows file
  load_fine n e l m = sym (checked_rest n e ∙ ap₂ (λ t u. when t 23 else when (not u) 25) (le-ltb capacity n l) (eq-eqb (length rows) 0 m))

-- ---- what was loaded is what is saved
saved_same : (plan : List ℕ) (rows others : List Row) → Once rows → Same rows others → saved plan others ≡ saved plan rows
saved_same plan rows others once s =
    ap (λ rs. header plan ++ (bytes_of 2 (length rs) ++ (number_bytes rs ++ letter_bytes rs)))
    (rising_only rows (rising others) once (then s (rising_same others)) (rising_rises others (once_same rows others s once)))

pub saves_back : (x : Index) (file : List ℕ) → AllByRecursion (λ b. b < 256) file → None ≡ told (seen_index x) (loads file) → SavesBack (after (seen_index x) (loads file)) file
saves_back x file bytes fine =
    let plan = plan_of x in
    let rows = file_rows (plan_of x) file in
    let p = loaded_proper (plan_of x) x.capacity (rows_in (tree_in x)) file bytes (sym fine) in
    let none = none_listed (rows_in (tree_in x)) p.3 in
    let s : Same (file_rows (plan_of x) file) (rows_in (entered_all (length (plan_of x)) (tree_in x) (file_rows (plan_of x) file)))
    = subst (λ l. Same l (rows_in (entered_all (length (plan_of x)) (tree_in x) (file_rows (plan_of x) file)))) (ap (λ t. file_rows (plan_of x) file ++ t) none ∙ append-nil (file_rows (plan_of x) file))
    (entered_all_rows (length (plan_of x)) (tree_in x) (file_rows (plan_of x) file) (whole_of x).stands.build) in
    let back : saved (plan_of x) (file_rows (plan_of x) file) ≡ file = loaded_saves (plan_of x) x.capacity file bytes (ap (λ l. of_load (plan_of x) x.capacity l file) (sym none) ∙ sym fine) in
    subst (λ a. SavesBack (standing (plan_of x) x.capacity (unless a (entered_all (length (plan_of x)) (tree_in x) (file_rows (plan_of x) file)) (tree_in x))) file) fine
    (saved_same (plan_of x) (file_rows (plan_of x) file) _ p.1 s ∙ back)

pub loads_saved : (x y : Index) (file : List ℕ) (r : Result ℕ Held) → AllByRecursion (λ b. b < 256) file → index.Does x y (loads file) (refusal_of r) → OnOk r (SavesBack (seen_index y) file)
loads_saved x y file (Err e) bytes d = tt
loads_saved x y file (Ok n) bytes d = subst (λ s. SavesBack s file) (sym d.seen) (saves_back x file bytes d.told)
