-- A list of numbers that was sorted is the ranking of what it was.
use Rattle.std.proofs.Common.{◌≡◌, ℕ, suc, ◌<◌, false, cond, eqb, ltb, List, [], ◌∷◌, get_or, sum_by, sym, refl, ap, ◌∙◌, ap₂, ⊎_elim, arith}
use Rattle.std.specs.List.Sorted.{IsPermutation, IsNonDecreasing}
use Rattle.std.specs.List.{AllByRecursion}
use Rattle.std.proofs.ByRecursion.{All-from_get_or}
use Rattle.std.proofs.lemmas.List.Sorted.{sum_by-IsPermutation}
use Rattle.std.proofs.lemmas.List.Sums.{sum_by-cons}
use Rattle.std.proofs.lemmas.Bool.{cases_lt, eq-eqb, ne_eqb, le-ltb, ltb-false}
use Rattle.ranked.specs.Rank.{Order, InRank, ranked}
use Rattle.ranked.proofs.Sames.{sum_same}
use Rattle.ranked.proofs.Ranks.{ranked_holds, ranked_in_rank}

-- whether a number is v, as 1 or 0
abbrev is : ℕ → ℕ → ℕ
is v x = cond (eqb x v) 1 0

is_self : (v : ℕ) → is v v ≡ 1
is_self v = ap (λ t. cond t 1 0) (eq-eqb v v refl)

none_above : (v x : ℕ) (xs : List ℕ) → v < x → AllByRecursion (λ y. ltb y x ≡ false) xs → sum_by (is v) xs ≡ 0
none_above v x [] h a = refl
none_above v x (y ∷ ys) h a =
    let up = ltb-false y x a.0 in
    let z : is v y ≡ 0 = ap (λ t. cond t 1 0) (ne_eqb y v (λ e. omega arith)) in
    omega (arith, sum_by-cons (is v) y ys, none_above v x ys h a.1, z)

-- each number as often in the one list as in the other
abbrev Alike : List ℕ → List ℕ → Type 0
Alike xs ys = (v : ℕ) → sum_by (is v) xs ≡ sum_by (is v) ys

-- of two such lists in rank neither begins with the lower number
first_least_lem : (x y : ℕ) (xs ys : List ℕ) → AllByRecursion (λ z. ltb z y ≡ false) ys → Alike (x ∷ xs) (y ∷ ys) → x < y → ⊥
first_least_lem x y xs ys a e h =
    let z : is x y ≡ 0 = ap (λ t. cond t 1 0) (ne_eqb y x (λ e. omega arith)) in
    omega (arith, e x, sum_by-cons (is x) x xs, sum_by-cons (is x) y ys, none_above x y ys h a, is_self x, z)

alike_is : (xs ys : List ℕ) → InRank ltb xs → InRank ltb ys → Alike xs ys → xs ≡ ys
alike_is [] [] p q e = refl
alike_is [] (y ∷ ys) p q e = absurd (omega (arith, e y, sum_by-cons (is y) y ys, is_self y))
alike_is (x ∷ xs) [] p q e = absurd (omega (arith, e x, sum_by-cons (is x) x xs, is_self x))
alike_is (x ∷ xs) (y ∷ ys) p q e =
    let n : x ≡ y = ⊎_elim (λ h. absurd (first_least_lem x y xs ys q.0 e h)) (λ h. ⊎_elim (λ g. absurd (first_least_lem y x ys xs p.0 (λ v. sym (e v)) g)) (λ g. omega arith) (cases_lt y x)) (cases_lt x y) in
    let same : Alike xs ys = λ v. omega (arith, e v, sum_by-cons (is v) x xs, sum_by-cons (is v) y ys, ap (is v) n) in
    ap₂ (λ a rest. a ∷ rest) n (alike_is xs ys p.1 q.1 same)

rising_in_rank : (xs : List ℕ) → IsNonDecreasing xs → InRank ltb xs
rising_in_rank [] r = tt
rising_in_rank (x ∷ xs) r = (
  All-from_get_or (λ y. ltb y x ≡ false) xs 0 (λ i l. le-ltb (get_or xs i 0) x (r 0 (suc i) 0 (omega arith) (omega arith))),
  rising_in_rank xs (λ i j d h l. r (suc i) (suc j) d (omega arith) (omega arith)),
)

pub sorted_is : Order ltb → (xs ys : List ℕ) → IsPermutation xs ys → IsNonDecreasing ys → ys ≡ ranked ltb xs
sorted_is o xs ys s r =
    alike_is ys (ranked ltb xs) (rising_in_rank ys r) (ranked_in_rank ltb o xs)
    (λ v. sum_by-IsPermutation (is v) xs ys s ∙ sum_same (is v) (ranked_holds ltb xs))
