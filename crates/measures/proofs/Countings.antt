-- The loop over the clips of a library.
use Rattle.std.proofs.Common.{◌≡◌, ℕ, suc, ◌+◌, ◌<◌, ◌≤◌, Bool, true, false, cond, not, ◌&&◌, eqb, ltb, leb, List, [], ◌∷◌, map, length, get_or, drop, is_some, Some, None, Option, Result, sym, refl, ap, ◌∙◌, arith}
use lib.ListN.{length-map}
use Rattle.std.specs.Result.{result_ok}
use Rattle.std.proofs.lemmas.List.{drop_more, get_or-map}
use Rattle.std.proofs.lemmas.Bool.{and_parts, leb-true, le-ltb}
use Rattle.std.proofs.lemmas.Bool.Decides.{nat_tests}
use Rattle.space.specs.Boxes.{dimensions, small}
use Rattle.space.specs.Plans.{plan_fault, size_fault, vector_fault, letter_fault, unless_fault}
use Rattle.space.specs.declared.plan.ClipFault.{ClipFault}
use Rattle.space.specs.Row.{Row}
use Rattle.space.proofs.Steps.{one_all}
use Rattle.measures.specs.Counted.{NothingBeyond}
use Rattle.measures.specs.Counts.{Shaped, number_at, one_at, count_at, of_plan, limits, countable}

-- ---- rows of a plan
-- a vector of a plan has letters up to 63, and at most ten
letters_small : (i j : ℕ) (sizes v : List ℕ) → size_fault i sizes ≡ None → letter_fault j sizes v ≡ None → length v ≡ length sizes → small v ≡ true
letters_small i j sizes [] p h e = refl
letters_small i j [] (l ∷ v) p h e = absurd (omega arith)
letters_small i j (s ∷ sizes) (l ∷ v) p h e =
    let more = letters_small (suc i) (suc j) sizes v in
    grind (arith, nat_tests)

pub plan_dimensions : (plan : List ℕ) → plan_fault plan ≡ None → (1 ≤ length plan) × (length plan ≤ 10)
plan_dimensions plan p =
    let d : dimensions (length plan) ≡ true = grind (arith, nat_tests) in
    let q = and_parts (leb 1 (length plan)) (leb (length plan) 10) d in
    (leb-true 1 (length plan) q.0, leb-true (length plan) 10 q.1)

pub vector_small : (plan v : List ℕ) → plan_fault plan ≡ None → vector_fault plan v ≡ None → (small v ≡ true) × (length v ≤ 10)
vector_small plan v p h =
    let s : size_fault 1 plan ≡ None = grind (arith, nat_tests) in
    let n : length v ≡ length plan = grind (arith, nat_tests) in
    let l : letter_fault 1 plan v ≡ None = grind (arith, nat_tests) in
    let m = (plan_dimensions plan p).1 in
    (letters_small 1 1 plan v s l n, omega arith)

pub count_most : (i l : ℕ) (rows : List Row) → count_at i l rows ≤ length rows
count_most i l [] = omega arith
count_most i l (r ∷ rs) =
    let more = count_most i l rs in
    let one : one_at i l r.letters ≤ 1 = few (ltb i (length r.letters) && eqb (get_or r.letters i 0) l) in
    omega arith
  where
    few : (t : Bool) → cond t 1 0 ≤ 1
    few true = omega arith
    few false = omega arith

-- ---- the loop: the first k clips are counted
-- a clip stands where its row does
pub row_at : {X : Type 0} (f : X → Row) (clips : List X) (c : X) (k : ℕ) → k < length clips → c ≡ get_or clips k c → f c ≡ get_or (map f clips) k (f c)
row_at f clips c k h is = ap f is ∙ sym (get_or-map f clips k c (f c) h)

pub record CountedSoFar (plan : List ℕ) (rows : List Row) (numbers : List (List ℕ)) (k : ℕ) : Type 0 where
  pub fits : of_plan plan (drop k rows) ≡ of_plan plan rows
  pub shape : Shaped numbers
  pub sums : (i l : ℕ) → number_at numbers i l + count_at i l (drop k rows) ≡ count_at i l rows

pub counted_none : (plan : List ℕ) (rows : List Row) (numbers : List (List ℕ)) → Shaped numbers → ((i l : ℕ) → number_at numbers i l ≡ 0) → CountedSoFar plan rows numbers 0
counted_none plan rows numbers s z = record { fits = refl; shape = s; sums = λ i l. let e = z i l in omega arith }

module _ (plan : List ℕ) (rows : List Row) (numbers : List (List ℕ)) (k : ℕ) (so_far : CountedSoFar plan rows numbers k) where
  pub counted_few : length rows ≤ 4096 → (i l : ℕ) → number_at numbers i l ≤ 4096
  counted_few h i l =
      let m = count_most i l rows in
      let s = so_far.sums i l in
      omega arith

  -- the next row, and its letters as they are read
  module _ (r : Row) (h : k < length rows) (is : r ≡ get_or rows k r) (v : List ℕ) (same : v ≡ r.letters) where
    next_rows : drop k rows ≡ r ∷ drop (k + 1) rows
    next_rows = drop_more rows k r h ∙ ap (λ x. x ∷ drop (k + 1) rows) (sym is)

    next_fits : of_plan plan rows ≡ (not (is_some (vector_fault plan v)) && of_plan plan (drop (k + 1) rows))
    next_fits = sym so_far.fits ∙ ap (of_plan plan) next_rows ∙ ap (λ x. not (is_some (vector_fault plan x)) && of_plan plan (drop (k + 1) rows)) (sym same)

    pub counted_stop : is_some (vector_fault plan v) ≡ true → of_plan plan rows ≡ false
    counted_stop e = next_fits ∙ ap (λ t. not t && of_plan plan (drop (k + 1) rows)) e

    pub counted_more : vector_fault plan v ≡ None → (new : List (List ℕ)) → Shaped new
        → ((i l : ℕ) → number_at new i l ≡ number_at numbers i l + one_at i l v) → CountedSoFar plan rows new (k + 1)
    counted_more e new s add =
        record {
          fits = sym (next_fits ∙ ap (λ f. not (is_some f) && of_plan plan (drop (k + 1) rows)) e);
          shape = s;
          sums = λ i l. let a = add i l in let b = so_far.sums i l in let n = ap (count_at i l) next_rows in let o = ap (one_at i l) same in omega arith;
        }

  pub counted_all : length rows ≤ k → (of_plan plan rows ≡ true) × ((i l : ℕ) → number_at numbers i l ≡ count_at i l rows)
  counted_all h = (
    sym so_far.fits ∙ one_all (of_plan plan) rows k h,
    λ i l. let s = so_far.sums i l in let e = one_all (count_at i l) rows k h in omega arith,
  )

-- ---- what the limits say
pub limits_parts : (plan : List ℕ) (n : ℕ) → limits plan n ≡ true → (plan_fault plan ≡ None) × (1 ≤ n) × (n ≤ 4096)
limits_parts plan n h =
    let p = and_parts (not (is_some (plan_fault plan))) (leb 1 n && leb n 4096) h in
    let q = and_parts (leb 1 n) (leb n 4096) p.1 in
    (none (plan_fault plan) p.0, leb-true 1 n q.0, leb-true n 4096 q.1)
  where
    none : {F : Type 0} (f : Option F) → not (is_some f) ≡ true → f ≡ None
    none None e = refl
    none (Some x) e = absurd (let z : ◌≡◌ {A = ℕ} 0 1 = cc in omega arith)

-- the rows are as many as the clips
pub limits_rows : {X : Type 0} (f : X → Row) (plan : List ℕ) (clips : List X) (t : Bool) → t ≡ limits plan (length clips) → limits plan (length (map f clips)) ≡ t
limits_rows f plan clips t h = ap (limits plan) (length-map clips f) ∙ sym h

pub not_limits : (plan : List ℕ) (rows : List Row) → limits plan (length rows) ≡ false → countable plan rows ≡ false
not_limits plan rows h = ap (λ t. t && of_plan plan rows) h

pub not_plan : (plan : List ℕ) (rows : List Row) → of_plan plan rows ≡ false → countable plan rows ≡ false
not_plan plan rows h = ap (λ t. limits plan (length rows) && t) h ∙ last (limits plan (length rows))
  where
    last : (t : Bool) → (t && false) ≡ false
    last true = refl
    last false = refl

-- ---- the check of one clip
module _ (plan v : List ℕ) (r : Result (Unit {0}) ClipFault) (is : r ≡ unless_fault (vector_fault plan v)) where
  pub fault_some : None ≡ result_ok r → is_some (vector_fault plan v) ≡ true
  fault_some h = go (vector_fault plan v) (h ∙ ap result_ok is)
    where
      go : (f : Option ClipFault) → None ≡ result_ok (unless_fault f) → is_some f ≡ true
      go None e = cc
      go (Some x) e = refl

  pub fault_none : {x : Unit {0}} → Some x ≡ result_ok r → vector_fault plan v ≡ None
  fault_none h = go (vector_fault plan v) (h ∙ ap result_ok is)
    where
      go : (f : Option ClipFault) {x : Unit {0}} → Some x ≡ result_ok (unless_fault f) → f ≡ None
      go None e = refl
      go (Some y) e = cc

-- ---- nothing is counted beyond the plan
beyond_plan : (plan : List ℕ) (rows : List Row) → of_plan plan rows ≡ true → (i l : ℕ) → length plan ≤ i → count_at i l rows ≡ 0
beyond_plan plan [] h i l k = refl
beyond_plan plan (r ∷ rs) h i l k =
    let p = and_parts (not (is_some (vector_fault plan r.letters))) (of_plan plan rs) h in
    let n : length r.letters ≡ length plan = long p.0 in
    let more = beyond_plan plan rs p.1 i l k in
    let z : ltb i (length r.letters) ≡ false = le-ltb i (length r.letters) (omega arith) in
    let one : one_at i l r.letters ≡ 0 = ap (λ t. cond (t && eqb (get_or r.letters i 0) l) 1 0) z in
    omega arith
  where
    long : not (is_some (vector_fault plan r.letters)) ≡ true → length r.letters ≡ length plan
    long e = grind (arith, nat_tests)

pub nothing_beyond : NothingBeyond
nothing_beyond plan rows h i l k = beyond_plan plan rows (and_parts (limits plan (length rows)) (of_plan plan rows) h).1 i l k
