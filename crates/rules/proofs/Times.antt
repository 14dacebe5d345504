-- How often a number stands in some rows.
use Rattle.std.proofs.Common.{◌≡◌, ℕ, zero, suc, ◌+◌, ◌<◌, ◌≤◌, Bool, true, false, cond, ◌||◌, eqb, List, [], ◌∷◌, ◌++◌, length, get_or, sym, refl, ap, ◌∙◌, arith}
use Rattle.std.proofs.lemmas.Bool.{false≢true, eq-eqb, eqb-true, both_ways, cond_both}
use Rattle.std.specs.List.{AllByRecursion}
use Rattle.space.specs.Row.{Row}
use Rattle.rules.specs.Rows.{lists, without}
use Rattle.rules.specs.Finds.{Once}
use Rattle.ranked.specs.Same.{Same, none, keep, turn, then}
use Rattle.ranked.proofs.Sames.{same_refl}

abbrev pub times : ℕ → List Row → ℕ
times n [] = 0
times n (r ∷ rs) = cond (eqb r.number n) 1 0 + times n rs

-- no number stands twice
abbrev pub Single : List Row → Type 0
Single rows = (n : ℕ) → times n rows ≤ 1

pub times_append : (n : ℕ) (xs ys : List Row) → times n (xs ++ ys) ≡ times n xs + times n ys
times_append n [] ys = omega arith
times_append n (x ∷ xs) ys = omega (arith, times_append n xs ys)

pub times_same : (n : ℕ) {xs ys : List Row} → Same xs ys → times n xs ≡ times n ys
times_same n none = refl
times_same n (keep {x = x} s) = ap (λ k. cond (eqb x.number n) 1 0 + k) (times_same n s)
times_same n (turn {x = x} {y = y} {xs = xs}) = omega arith
times_same n (then s t) = times_same n s ∙ times_same n t

-- listed or not
pub listed_times : (n : ℕ) (xs : List Row) → lists n xs ≡ true → 1 ≤ times n xs
listed_times n [] e = absurd (both_ways false refl e)
listed_times n (x ∷ xs) e = go (eqb x.number n) e (listed_times n xs)
  where
    go : (t : Bool) → (t || lists n xs) ≡ true → (lists n xs ≡ true → 1 ≤ times n xs) → 1 ≤ cond t 1 0 + times n xs
    go true e more = omega arith
    go false e more = omega (arith, more e)

-- where a number is listed there is a row
pub listed_some : (n : ℕ) (xs : List Row) → lists n xs ≡ true → 1 ≤ length xs
listed_some n [] e = absurd (false≢true e)
listed_some n (x ∷ xs) e = omega arith

pub unlisted_times : (n : ℕ) (xs : List Row) → lists n xs ≡ false → times n xs ≡ 0
unlisted_times n [] e = refl
unlisted_times n (x ∷ xs) e = go (eqb x.number n) e (unlisted_times n xs)
  where
    go : (t : Bool) → (t || lists n xs) ≡ false → (lists n xs ≡ false → times n xs ≡ 0) → cond t 1 0 + times n xs ≡ 0
    go true e more = absurd (both_ways true e refl)
    go false e more = omega (arith, more e)

pub times_listed : (n : ℕ) (xs : List Row) → 1 ≤ times n xs → lists n xs ≡ true
times_listed n xs l = go (lists n xs) refl
  where
    go : (t : Bool) → lists n xs ≡ t → lists n xs ≡ true
    go true e = e
    go false e = absurd (omega (arith, unlisted_times n xs e))

pub times_unlisted : (n : ℕ) (xs : List Row) → times n xs ≡ 0 → lists n xs ≡ false
times_unlisted n xs l = go (lists n xs) refl
  where
    go : (t : Bool) → lists n xs ≡ t → lists n xs ≡ false
    go false e = e
    go true e = absurd (omega (arith, listed_times n xs e))

pub lists_same : (n : ℕ) {xs ys : List Row} → Same xs ys → lists n xs ≡ lists n ys
lists_same n {xs = xs} {ys = ys} s = go (lists n ys) refl
  where
    go : (t : Bool) → lists n ys ≡ t → lists n xs ≡ lists n ys
    go true e = times_listed n xs (omega (arith, listed_times n ys e, times_same n s)) ∙ sym e
    go false e = times_unlisted n xs (times_same n s ∙ unlisted_times n ys e) ∙ sym e

-- without a number
pub without_append : (n : ℕ) (xs ys : List Row) → without n (xs ++ ys) ≡ without n xs ++ without n ys
without_append n [] ys = refl
without_append n (x ∷ xs) ys =
    let more = without_append n xs ys in
    elim (eqb x.number n) as (λ t. cond t (without n (xs ++ ys)) (x ∷ without n (xs ++ ys)) ≡ cond t (without n xs) (x ∷ without n xs) ++ without n ys)
    [ true ↦ more | false ↦ ap (λ l. x ∷ l) more ]

pub without_none : (n : ℕ) (xs : List Row) → times n xs ≡ 0 → without n xs ≡ xs
without_none n [] e = refl
without_none n (x ∷ xs) e = go (eqb x.number n) e (without_none n xs)
  where
    go : (t : Bool) → cond t 1 0 + times n xs ≡ 0 → (times n xs ≡ 0 → without n xs ≡ xs) → cond t (without n xs) (x ∷ without n xs) ≡ x ∷ xs
    go true e more = absurd (omega arith)
    go false e more = ap (λ l. x ∷ l) (more (omega arith))

pub length_without : (n : ℕ) (xs : List Row) → length (without n xs) + times n xs ≡ length xs
length_without n [] = refl
length_without n (x ∷ xs) =
    let more = length_without n xs in
    elim (eqb x.number n) as (λ t. length (cond t (without n xs) (x ∷ without n xs)) + (cond t 1 0 + times n xs) ≡ suc (length xs))
    [ true ↦ omega arith | false ↦ omega arith ]

pub times_without : (m n : ℕ) (xs : List Row) → times m (without n xs) ≤ times m xs
times_without m n [] = omega arith
times_without m n (x ∷ xs) =
    let more = times_without m n xs in
    elim (eqb x.number n) as (λ t. times m (cond t (without n xs) (x ∷ without n xs)) ≤ cond (eqb x.number m) 1 0 + times m xs)
    [ true ↦ omega arith | false ↦ omega arith ]

pub all_without : (P : Row → Type 0) (n : ℕ) (xs : List Row) → AllByRecursion P xs → AllByRecursion P (without n xs)
all_without P n [] a = tt
all_without P n (x ∷ xs) a =
    let more = all_without P n xs a.1 in
    cond_both (eqb x.number n) (without n xs) (x ∷ without n xs) (AllByRecursion P) (λ _. more) (λ _. (a.0, more))

-- each row more, or not, alike
more_same : (t : Bool) (x : Row) {xs ys : List Row} → Same xs ys → Same (cond t xs (x ∷ xs)) (cond t ys (x ∷ ys))
more_same true x s = s
more_same false x s = keep s

swap_same : (t u : Bool) (x y : Row) (xs : List Row) → Same (cond t (cond u xs (y ∷ xs)) (x ∷ cond u xs (y ∷ xs))) (cond u (cond t xs (x ∷ xs)) (y ∷ cond t xs (x ∷ xs)))
swap_same true true x y xs = same_refl xs
swap_same true false x y xs = same_refl (y ∷ xs)
swap_same false true x y xs = same_refl (x ∷ xs)
swap_same false false x y xs = turn

pub without_same : (n : ℕ) {xs ys : List Row} → Same xs ys → Same (without n xs) (without n ys)
without_same n none = none
without_same n (keep {x = x} s) = more_same (eqb x.number n) x (without_same n s)
without_same n (turn {x = x} {y = y} {xs = xs}) = swap_same (eqb x.number n) (eqb y.number n) x y (without n xs)
without_same n (then s t) = then (without_same n s) (without_same n t)

-- ---- the two ways to say that no number stands twice
at_times : (xs : List Row) (i : ℕ) (r : Row) → i < length xs → 1 ≤ times (get_or xs i r).number xs
at_times [] i r l = absurd (omega arith)
at_times (x ∷ xs) zero r l = rw (eq-eqb x.number x.number refl) (omega arith)
at_times (x ∷ xs) (suc i) r l = omega (arith, at_times xs i r (omega arith))

times_at : (n : ℕ) (xs : List Row) (r : Row) → 1 ≤ times n xs → (i : ℕ) × (i < length xs) × ((get_or xs i r).number ≡ n)
times_at n [] r l = absurd (omega arith)
times_at n (x ∷ xs) r l = go (eqb x.number n) refl l (times_at n xs r)
  where
    go : (t : Bool) → eqb x.number n ≡ t → 1 ≤ cond t 1 0 + times n xs → (1 ≤ times n xs → (i : ℕ) × (i < length xs) × ((get_or xs i r).number ≡ n))
        → (i : ℕ) × (i < suc (length xs)) × ((get_or (x ∷ xs) i r).number ≡ n)
    go true e l more = (0, omega arith, eqb-true x.number n e)
    go false e l more = let k = more (omega arith) in (suc k.0, omega (arith, k.1), k.2)

single_tail : (x : Row) (xs : List Row) → Single (x ∷ xs) → Single xs
single_tail x xs s n = omega (arith, s n)

pub single_once : (xs : List Row) → Single xs → Once xs
single_once [] s i j r l m e = omega arith
single_once (x ∷ xs) s i zero r l m e = omega arith
single_once (x ∷ xs) s zero (suc j) r l m e =
    let a = at_times xs j r (omega arith) in
    let b : ◌≡◌ {A = ℕ} (cond (eqb x.number (get_or xs j r).number) 1 0) 1 = ap (λ t. cond t 1 0) (eq-eqb x.number (get_or xs j r).number e) in
    omega (arith, s (get_or xs j r).number)
single_once (x ∷ xs) s (suc i) (suc j) r l m e = single_once xs (single_tail x xs s) i j r (omega arith) (omega arith) e

once_tail : (x : Row) (xs : List Row) → Once (x ∷ xs) → Once xs
once_tail x xs o i j r l m e = o (suc i) (suc j) r (omega arith) (omega arith) e

pub once_single : (xs : List Row) → Once xs → Single xs
once_single [] o n = omega arith
once_single (x ∷ xs) o n = go (eqb x.number n) refl (once_single xs (once_tail x xs o) n) (times n xs) refl
  where
    go : (t : Bool) → eqb x.number n ≡ t → times n xs ≤ 1 → (k : ℕ) → times n xs ≡ k → cond t 1 0 + times n xs ≤ 1
    go false e l k q = omega arith
    go true e l zero q = omega arith
    go true e l (suc k) q =
        let a = times_at n xs x (omega arith) in
        absurd (o 0 (suc a.0) x (omega arith) (omega (arith, a.1)) (eqb-true x.number n e ∙ sym a.2))
