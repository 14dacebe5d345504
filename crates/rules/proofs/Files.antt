-- The file of a catalogue: what is saved is read back, and what is read was saved.
use Rattle.std.proofs.Common.{◌≡◌, ℕ, zero, suc, ◌+◌, ◌*◌, ◌<◌, ◌≤◌, Bool, true, false, cond, eqb, ltb, List, [], ◌∷◌, ◌++◌, length, take, drop, Some, None, sym, refl, ap, ◌∙◌, subst, ap₂, mul-zero, mul-suc, arith}
use Rattle.std.specs.List.{AllByRecursion}
use Rattle.std.proofs.lemmas.List.{append_assoc, length-append, length-take-le, length-drop, take_at, drop_at, drop-drop, take-append-drop, nil_from_length}
use Rattle.std.proofs.ByRecursion.{All-weaker, All-drop}
use Rattle.std.proofs.lemmas.Bool.{and_parts, and_from, eqb-true, eq-eqb, ltb-true, ltb-false, lt-ltb, le-ltb, or_from, or_parts, not-false, not_from_true, cond-true}
use Rattle.ranked.proofs.Sames.{all_same, length_same}
use Rattle.space.specs.Row.{Row}
use Rattle.rules.specs.Rows.{lower, rising}
use Rattle.rules.specs.Refusals.{refused_at, when_at, bad_letter}
use Rattle.rules.specs.File.{bytes_of, number_of, header, number_bytes, letter_bytes, begins, body, announced, rows_from, file_rows, bad_number, bad_row, body_length, of_load}
use Rattle.rules.specs.LawsFile.{FitsFile, PossibleRow, SavedReads, SavedLoads, LoadedSaves, LoadedProper}
use Rattle.rules.proofs.Alls.{all_both}
use Rattle.rules.proofs.Rises.{Rises, rises_is}
use Rattle.rules.proofs.Risings.{rising_same, rising_rises, rises_once}
use Rattle.rules.proofs.Bytes.{Bytes, number_back, bytes_front, number_front}
use Rattle.rules.proofs.Refused.{some_none, else_none, when_none, when_at_none, none_else, none_when, none_when_at}

-- ---- the parts of a file that is saved
length_numbers : (rs : List Row) → length (number_bytes rs) ≡ 4 * length rs
length_numbers [] = refl
length_numbers (r ∷ rs) = let more = length_numbers rs in omega arith

length_letters : (d : ℕ) (rs : List Row) → AllByRecursion (λ r. length r.letters ≡ d) rs → length (letter_bytes rs) ≡ d * length rs
length_letters d [] a = sym (mul-zero d)
length_letters d (r ∷ rs) a =
    let more = length_letters d rs a.1 in
    omega (arith, length-append r.letters (letter_bytes rs), a.0, mul-suc d (length rs))

rows_back : (d : ℕ) (rs : List Row) (rest : List ℕ) → AllByRecursion (FitsFile d) rs → rows_from (length rs) d (number_bytes rs ++ rest) (letter_bytes rs) ≡ rs
rows_back d [] rest a = refl
rows_back d (r ∷ rs) rest a =
    let row : ℕ → List ℕ → Row = λ n l. record { number = n; letters = l } in
    ap₂ (λ x y. x ∷ y) (ap₂ row (number_back 4 r.number a.0.0) (take_at r.letters (letter_bytes rs) d a.0.1))
    (ap (rows_from (length rs) d (number_bytes rs ++ rest)) (drop_at r.letters (letter_bytes rs) d a.0.1) ∙ rows_back d rs rest a.1)

module _ (plan : List ℕ) (n : ℕ) (rest : List ℕ) (h : n < 65536) where
  body_is : body plan (header plan ++ (bytes_of 2 n ++ rest)) ≡ bytes_of 2 n ++ rest
  body_is = drop_at plan (bytes_of 2 n ++ rest) (length plan) refl

  announced_is : announced plan (header plan ++ (bytes_of 2 n ++ rest)) ≡ n
  announced_is = ap (λ b. number_of (take 2 b)) body_is ∙ number_back 2 n h

  file_rows_is : file_rows plan (header plan ++ (bytes_of 2 n ++ rest)) ≡ rows_from n (length plan) rest (drop (4 * n) rest)
  file_rows_is =
      ap₂ (λ b m. rows_from m (length plan) (drop 2 b) (drop (2 + 4 * m) b)) body_is announced_is
      ∙ ap (rows_from n (length plan) rest) (sym (drop-drop (4 * n) 2 (bytes_of 2 n ++ rest)))

pub saved_reads : SavedReads
saved_reads plan rows a l =
    let rs = rising rows in
    let same = length_same (rising_same rows) in
    file_rows_is plan (length rs) (number_bytes rs ++ letter_bytes rs) (omega arith)
    ∙ ap (rows_from (length rs) (length plan) (number_bytes rs ++ letter_bytes rs)) (drop_at (number_bytes rs) (letter_bytes rs) (4 * length rs) (length_numbers rs))
    ∙ rows_back (length plan) rs (letter_bytes rs) (all_same (FitsFile (length plan)) (rising_same rows) a)

-- ---- the checks, one by one
begins_self : (xs ys : List ℕ) → begins xs (xs ++ ys) ≡ true
begins_self [] ys = refl
begins_self (x ∷ xs) ys = and_from (eqb x x) (begins xs (xs ++ ys)) (eq-eqb x x refl) (begins_self xs ys)

begins_split : (xs ys : List ℕ) → begins xs ys ≡ true → xs ++ drop (length xs) ys ≡ ys
begins_split [] ys h = refl
begins_split (x ∷ xs) [] h = absurd (let z : ◌≡◌ {A = ℕ} 0 1 = cc in omega arith)
begins_split (x ∷ xs) (y ∷ ys) h =
    let p = and_parts (eqb x y) (begins xs ys) h in
    ap₂ (λ a b. a ∷ b) (eqb-true x y p.0) (begins_split xs ys p.1)

-- the numbers rise from above the last one on
abbrev pub Above : ℕ → List Row → Type 0
Above last rs = AllByRecursion (λ r. last < r.number) rs × Rises lower rs

above_good : (i last : ℕ) (rs : List Row) → Above last rs → bad_number i last rs ≡ None
above_good i last [] u = refl
above_good i last (r ∷ rs) u =
    cond-true (ltb last r.number) (bad_number (suc i) r.number rs) (Some (refused_at 7 0 i)) (lt-ltb last r.number u.0.0)
    ∙ above_good (suc i) r.number rs
    (All-weaker (λ s. lower r s ≡ true) (λ s. r.number < s.number) (λ s e. ltb-true r.number s.number e) rs u.1.0, u.1.1)

good_above : (i last : ℕ) (rs : List Row) → bad_number i last rs ≡ None → Above last rs
good_above i last [] e = (tt, tt)
good_above i last (r ∷ rs) e = go (λ (x : bad_number (suc i) r.number rs ≡ None). good_above (suc i) r.number rs x) (ltb last r.number) refl e
  where
    go : (bad_number (suc i) r.number rs ≡ None → Above r.number rs) → (t : Bool) → ltb last r.number ≡ t
        → cond t (bad_number (suc i) r.number rs) (Some (refused_at 7 0 i)) ≡ None → Above last (r ∷ rs)
    go more true t e =
        let l = ltb-true last r.number t in
        let u = more e in (
          (l, All-weaker (λ s. r.number < s.number) (λ s. last < s.number) (λ s h. omega arith) rs u.0),
          (All-weaker (λ s. r.number < s.number) (λ s. lower r s ≡ true) (λ s h. lt-ltb r.number s.number h) rs u.0, u.1),
        )
    go more false t e = absurd (some_none (refused_at 7 0 i) e)

rows_good : (i : ℕ) (plan : List ℕ) (rs : List Row) → AllByRecursion (λ r. bad_letter 1 plan r.letters ≡ 0) rs → bad_row i plan rs ≡ None
rows_good i plan [] a = refl
rows_good i plan (r ∷ rs) a =
    none_else (when_at 9 (bad_letter 1 plan r.letters) i) (bad_row (suc i) plan rs) (none_when_at 9 (bad_letter 1 plan r.letters) i a.0)
    (rows_good (suc i) plan rs a.1)

good_rows : (i : ℕ) (plan : List ℕ) (rs : List Row) → bad_row i plan rs ≡ None → AllByRecursion (λ r. bad_letter 1 plan r.letters ≡ 0) rs
good_rows i plan [] e = tt
good_rows i plan (r ∷ rs) e =
    let p = else_none (when_at 9 (bad_letter 1 plan r.letters) i) (bad_row (suc i) plan rs) e in
    (when_at_none 9 (bad_letter 1 plan r.letters) i p.0, good_rows (suc i) plan rs p.1)

-- ---- the checks together
-- what a file that is not refused was checked for
pub record Checked (plan : List ℕ) (capacity : ℕ) (rows : List Row) (file : List ℕ) : Type 0 where
  pub starts : begins (header plan) file ≡ true
  pub long : length (body plan file) ≡ body_length (length plan) (announced plan file)
  pub numbers : Above 0 (file_rows plan file)
  pub letters : AllByRecursion (λ r. bad_letter 1 plan r.letters ≡ 0) (file_rows plan file)
  pub room : announced plan file ≤ capacity
  pub new : length rows ≡ 0

module _ (plan : List ℕ) (capacity : ℕ) (rows : List Row) (file : List ℕ) where
  abbrev want : ℕ
  want = body_length (length plan) (announced plan file)

  pub none_checked : of_load plan capacity rows file ≡ None → Checked plan capacity rows file
  none_checked ok =
      let p0 = else_none _ _ ok in
      let p1 = else_none _ _ p0.1 in
      let p2 = else_none _ _ p1.1 in
      let p3 = else_none _ _ p2.1 in
      let p4 = else_none _ _ p3.1 in
      let p5 = else_none _ _ p4.1 in
      record {
        starts = not-false (begins (header plan) file) (when_none _ 4 p0.0);
        long = just (or_parts (ltb (length (body plan file)) 2) (ltb (length (body plan file)) want) (when_none _ 5 p1.0)).1 (when_none _ 6 p2.0);
        numbers = good_above 1 0 (file_rows plan file) p3.0;
        letters = good_rows 1 plan (file_rows plan file) p4.0;
        room = ltb-false capacity (announced plan file) (when_none _ 23 p5.0);
        new = eqb-true (length rows) 0 (not-false (eqb (length rows) 0) (when_none _ 25 p5.1));
      }
    where
      -- neither shorter nor longer
      just : ltb (length (body plan file)) want ≡ false → ltb want (length (body plan file)) ≡ false → length (body plan file) ≡ want
      just p q =
          let a = ltb-false (length (body plan file)) want p in let b = ltb-false want (length (body plan file)) q in
          omega arith

  pub checked_none : Checked plan capacity rows file → of_load plan capacity rows file ≡ None
  checked_none c =
      let is = c.long in
      none_else _ _ (none_when _ 4 (not_from_true (begins (header plan) file) c.starts))
      (none_else _ _ (none_when _ 5 (or_from _ _ (le-ltb (length (body plan file)) 2 (omega arith)) (le-ltb (length (body plan file)) want (omega arith))))
      (none_else _ _ (none_when _ 6 (le-ltb want (length (body plan file)) (omega arith)))
      (none_else _ _ (above_good 1 0 (file_rows plan file) c.numbers)
      (none_else _ _ (rows_good 1 plan (file_rows plan file) c.letters)
      (none_else _ _ (none_when _ 23 (le-ltb capacity (announced plan file) c.room))
      (none_when _ 25 (not_from_true (eqb (length rows) 0) (eq-eqb (length rows) 0 c.new))))))))

pub saved_loads : SavedLoads
saved_loads plan capacity rows a once l room =
    let rs = rising rows in
    let same = length_same (rising_same rows) in
    let n = length rs in
    let d = length plan in
    let rest = number_bytes rs ++ letter_bytes rs in
    let file = header plan ++ (bytes_of 2 n ++ rest) in
    let good : AllByRecursion (PossibleRow plan) rs = all_same (PossibleRow plan) (rising_same rows) a in
    let h : n < 65536 = omega arith in
    let reads : file_rows plan file ≡ rs = saved_reads plan rows (All-weaker (PossibleRow plan) (FitsFile d) (λ r p. (p.0, p.1.1)) rows a) l in
    let many : announced plan file ≡ n = announced_is plan n rest h in
    checked_none plan capacity [] file (record {
      starts = begins_self (header plan) (bytes_of 2 n ++ rest);
      long =
          long_is (length (body plan file)) (length rest) (length (number_bytes rs)) (length (letter_bytes rs)) n (ap length (body_is plan n rest h))
          (length-append (number_bytes rs) (letter_bytes rs)) (length_numbers rs)
          (length_letters d rs (All-weaker (PossibleRow plan) (λ r. length r.letters ≡ d) (λ r p. p.1.1) rs good))
          ∙ ap (body_length d) (sym many);
      numbers =
          subst (Above 0) (sym reads)
          (All-weaker (PossibleRow plan) (λ r. 0 < r.number) (λ r p. p.1.0) rs good, rising_rises rows once);
      letters =
          subst (AllByRecursion (λ r. bad_letter 1 plan r.letters ≡ 0)) (sym reads)
          (All-weaker (PossibleRow plan) (λ r. bad_letter 1 plan r.letters ≡ 0) (λ r p. p.1.2) rs good);
      room = subst (λ m. m ≤ capacity) (sym many) (omega arith);
      new = refl;
    })
  where
    long_is : (x z p q n : ℕ) → x ≡ suc (suc z) → z ≡ p + q → p ≡ 4 * n → q ≡ length plan * n → x ≡ body_length (length plan) n
    long_is x z p q n e f g h = omega arith

-- ---- the rows of a file that is not refused
length_rows_from : (n d : ℕ) (numbers letters : List ℕ) → length (rows_from n d numbers letters) ≡ n
length_rows_from zero d numbers letters = refl
length_rows_from (suc n) d numbers letters = ap suc (length_rows_from n d (drop 4 numbers) (drop d letters))

numbers_back : (n d : ℕ) (N L : List ℕ) → Bytes N → 4 * n ≤ length N → number_bytes (rows_from n d N L) ++ drop (4 * n) N ≡ N
numbers_back zero d N L a h = refl
numbers_back (suc n) d N L a h =
    let rest = number_bytes (rows_from n d (drop 4 N) (drop d L)) in
    let one : bytes_of 4 (number_of (take 4 N)) ≡ take 4 N = bytes_front 4 N a (omega arith) in
    let more : rest ++ drop (4 * n) (drop 4 N) ≡ drop 4 N =
    numbers_back n d (drop 4 N) (drop d L) (All-drop (λ b. b < 256) 4 N a) (let e = length-drop 4 N in omega arith) in
    let next : drop (4 * suc n) N ≡ drop (4 * n) (drop 4 N) =
    ap (λ k. drop k N) (let e : 4 * suc n ≡ 4 + 4 * n = omega arith in e) ∙ sym (drop-drop (4 * n) 4 N) in
    append_assoc (bytes_of 4 (number_of (take 4 N))) rest (drop (4 * suc n) N)
    ∙ ap₂ (λ x y. x ++ (rest ++ y)) one next
    ∙ ap (λ x. take 4 N ++ x) more
    ∙ take-append-drop 4 N

letters_back : (n d : ℕ) (N L : List ℕ) → length L ≡ d * n → letter_bytes (rows_from n d N L) ≡ L
letters_back zero d N L e = sym (nil_from_length L (e ∙ mul-zero d))
letters_back (suc n) d N L e =
    ap (λ x. take d L ++ x) (letters_back n d (drop 4 N) (drop d L) (let m = length-drop d L in let s = mul-suc d n in omega arith)) ∙ take-append-drop d L

rows_from_fit : (n d : ℕ) (N L : List ℕ) → Bytes N → 4 * n ≤ length N → length L ≡ d * n → AllByRecursion (FitsFile d) (rows_from n d N L)
rows_from_fit zero d N L a h e = tt
rows_from_fit (suc n) d N L a h e =
    let s = mul-suc d n in (
      (number_front 4 N a (omega arith), length-take-le d L (omega arith)),
      rows_from_fit n d (drop 4 N) (drop d L) (All-drop (λ b. b < 256) 4 N a) (let m = length-drop 4 N in omega arith) (let m = length-drop d L in omega arith),
    )

-- how long the parts of the body are
parts_long : (d n : ℕ) (b : List ℕ) → length b ≡ body_length d n → (2 ≤ length b) × (4 * n ≤ length (drop 2 b)) × (length (drop (2 + 4 * n) b) ≡ d * n)
parts_long d n b e = let p = length-drop 2 b in let q = length-drop (2 + 4 * n) b in (omega arith, omega arith, omega arith)

rows_from_long : (n d : ℕ) (N L : List ℕ) → length L ≡ d * n → AllByRecursion (λ r. length r.letters ≡ d) (rows_from n d N L)
rows_from_long zero d N L e = tt
rows_from_long (suc n) d N L e =
    let s = mul-suc d n in
    (length-take-le d L (omega arith), rows_from_long n d (drop 4 N) (drop d L) (let m = length-drop d L in omega arith))

-- the rows of a file that is not refused have d letters, and are no more than the capacity
module _ (plan : List ℕ) (capacity : ℕ) (rows : List Row) (file : List ℕ) (c : Checked plan capacity rows file) where
  pub checked_long : AllByRecursion (λ r. length r.letters ≡ length plan) (file_rows plan file)
  checked_long =
      let n = announced plan file in
      rows_from_long n (length plan) (drop 2 (body plan file)) (drop (2 + 4 * n) (body plan file)) (parts_long (length plan) n (body plan file) c.long).2

  pub checked_few : length (file_rows plan file) ≤ capacity
  checked_few =
      let n = announced plan file in
      subst (λ m. m ≤ capacity) (sym (length_rows_from n (length plan) (drop 2 (body plan file)) (drop (2 + 4 * n) (body plan file)))) c.room

pub loaded_saves : LoadedSaves
loaded_saves plan capacity file a ok =
    let c = none_checked plan capacity [] file ok in
    let b = body plan file in
    let n = announced plan file in
    let d = length plan in
    let N = drop 2 b in
    let L = drop (2 + 4 * n) b in
    let rs = file_rows plan file in
    let sizes = parts_long d n b c.long in
    let bytes : Bytes b = All-drop (λ x. x < 256) (suc d) file a in
    let back : number_bytes rs ++ letter_bytes rs ≡ N =
    ap (λ x. number_bytes rs ++ x) (letters_back n d N L sizes.2 ∙ sym (drop-drop (4 * n) 2 b))
    ∙ numbers_back n d N L (All-drop (λ x. x < 256) 2 b bytes) sizes.1 in
    ap (λ q. header plan ++ (bytes_of 2 (length q) ++ (number_bytes q ++ letter_bytes q))) (rises_is lower rs c.numbers.1)
    ∙ ap (λ k. header plan ++ (bytes_of 2 k ++ (number_bytes rs ++ letter_bytes rs))) (length_rows_from n d N L)
    ∙ ap₂ (λ x y. header plan ++ (x ++ y)) (bytes_front 2 b bytes sizes.0) back
    ∙ ap (λ x. header plan ++ x) (take-append-drop 2 b)
    ∙ begins_split (header plan) file c.starts

pub loaded_proper : LoadedProper
loaded_proper plan capacity rows file a ok =
    let c = none_checked plan capacity rows file ok in
    let b = body plan file in
    let n = announced plan file in
    let d = length plan in
    let rs = file_rows plan file in
    let sizes = parts_long d n b c.long in
    let bytes : Bytes b = All-drop (λ x. x < 256) (suc d) file a in
    let fit : AllByRecursion (FitsFile d) rs = rows_from_fit n d (drop 2 b) (drop (2 + 4 * n) b) (All-drop (λ x. x < 256) 2 b bytes) sizes.1 sizes.2 in
    let listed : AllByRecursion (λ r. (0 < r.number) × (bad_letter 1 plan r.letters ≡ 0)) rs =
    all_both (λ r. 0 < r.number) (λ r. bad_letter 1 plan r.letters ≡ 0) (λ r. (0 < r.number) × (bad_letter 1 plan r.letters ≡ 0))
    (λ r x y. (x, y)) rs c.numbers.0 c.letters in (
      all_both (FitsFile d) (λ r. (0 < r.number) × (bad_letter 1 plan r.letters ≡ 0)) (PossibleRow plan) (λ r x y. (x.0, (y.0, x.1, y.1))) rs fit listed,
      rises_once rs c.numbers.1,
      checked_few plan capacity rows file c,
      c.new,
    )
