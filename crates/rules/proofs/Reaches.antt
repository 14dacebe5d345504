-- The reach of a search: the distance of the kth find, and what is known of it while finds are still to come.
use Rattle.std.proofs.Common.{◌≡◌, ℕ, zero, suc, ◌-◌, ◌<◌, ◌≤◌, Bool, true, false, cond, ◌||◌, ltb, leb, List, [], ◌∷◌, ◌++◌, length, get_or, take, count_by, sym, refl, subst, arith}
use Rattle.std.specs.List.{AllByRecursion}
use Rattle.std.proofs.lemmas.List.{length-take, get_or-take}
use Rattle.std.proofs.ByRecursion.{All-weaker, All-get_or}
use Rattle.std.proofs.lemmas.List.Sums.{sum_by-cons, sum_by-append, count_by-le-length}
use Rattle.std.proofs.lemmas.Bool.{ltb-true, ltb-false, le-ltb, le-leb, cond_both}
use Rattle.std.proofs.lemmas.Bool.Decides.{nat_tests}
use Rattle.ranked.specs.declared.find.Find.{Find}
use Rattle.ranked.specs.Find.{ahead}
use Rattle.ranked.specs.Rank.{InRank, ranked}
use Rattle.ranked.proofs.Finds.{ahead_order, not_nearer}
use Rattle.ranked.proofs.Sames.{sum_same}
use Rattle.ranked.proofs.Ranks.{ranked_holds, ranked_in_rank}
use Rattle.rules.specs.Search.{reach}
use Rattle.rules.proofs.Rankings.{no_find}

-- ---- how many pass a test
module _ {X : Type 0} (p : X → Bool) where
  abbrev one : X → ℕ
  one x = cond (p x) 1 0

  count_none : (xs : List X) → AllByRecursion (λ x. p x ≡ false) xs → count_by p xs ≡ 0
  count_none [] a = refl
  count_none (x ∷ xs) a = let more = count_none xs a.1 in let no = a.0 in let sum = sum_by-cons one x xs in grind arith

  count_some : (xs : List X) (i : ℕ) (d : X) → i < length xs → p (get_or xs i d) ≡ false → count_by p xs < length xs
  count_some [] i d h e = absurd (let z : suc i ≤ 0 = h in omega arith)
  count_some (x ∷ xs) zero d h e = let n = count_by-le-length p xs in let sum = sum_by-cons one x xs in grind arith
  count_some (x ∷ xs) (suc i) d h e = let n = count_some xs i d (omega arith) e in let sum = sum_by-cons one x xs in grind arith

-- ---- the kth distance
-- how many finds lie below f
abbrev nearer : ℕ → List Find → ℕ
nearer f finds = count_by (λ x. ltb x.distance f) finds

-- with fewer than i + 1 below f, the one at i is not below it
few_then : (f : ℕ) (R : List Find) (i : ℕ) (d : Find) → InRank ahead R → i < length R → nearer f R < suc i → f ≤ (get_or R i d).distance
few_then f [] i d r h c = absurd (let z : suc i ≤ 0 = h in omega arith)
few_then f (x ∷ R) zero d r h c = let sum = sum_by-cons (λ (y : Find). cond (ltb y.distance f) 1 0) x R in grind (arith, nat_tests)
few_then f (x ∷ R) (suc i) d r h c =
    go (ltb x.distance f) refl (λ (e : nearer f R < suc i). few_then f R i d r.1 (omega arith) e)
  where
    go : (t : Bool) → ltb x.distance f ≡ t → (nearer f R < suc i → f ≤ (get_or R i d).distance) → f ≤ (get_or R i d).distance
    go true e more = more (let sum = sum_by-cons (λ (y : Find). cond (ltb y.distance f) 1 0) x R in grind arith)
    go false e more =
        let a = ltb-false x.distance f e in
        let b = not_nearer x (get_or R i d) (All-get_or (λ y. ahead y x ≡ false) R i d (omega arith) r.0) in
        omega arith

-- all of a list in rank are as near as its last
all_nearer : (f : ℕ) (F : List Find) (i : ℕ) (d : Find) → InRank ahead F → length F ≡ suc i → (get_or F i d).distance < f → AllByRecursion (λ y. y.distance < f) F
all_nearer f [] i d r e h = tt
all_nearer f (x ∷ []) zero d r e h = (h, tt)
all_nearer f (x ∷ y ∷ ys) zero d r e h = absurd (omega arith)
all_nearer f (x ∷ xs) (suc i) d r e h =
    let n : length xs ≡ suc i = omega arith in
    let q : ahead (get_or xs i d) x ≡ false = All-get_or (λ y. ahead y x ≡ false) xs i d (omega arith) r.0 in
    let m = not_nearer x (get_or xs i d) q in
    (omega arith, all_nearer f xs i d r.1 n h)

-- ---- the reach
-- as a program tests it: fewer than k finds, or not above the kth
pub reach_test : (k : ℕ) (F : List Find) (f : ℕ) → f ≤ 4294967295 → leb f (reach k F) ≡ (ltb (length F) k || leb f (get_or F (k - 1) no_find).distance)
reach_test k F f h =
    elim (ltb (length F) k) as (λ t. leb f (cond t 4294967295 (get_or F (k - 1) no_find).distance) ≡ (t || leb f (get_or F (k - 1) no_find).distance))
    [ true ↦ le-leb f 4294967295 h | false ↦ refl ]

-- what a floor within it says: fewer than k finds lie below the floor
few_within : (k : ℕ) (F : List Find) (f : ℕ) → 1 ≤ k → length F ≤ k → f ≤ reach k F → nearer f F < k
few_within k F f one short h = go (ltb (length F) k) refl h
  where
    go : (t : Bool) → ltb (length F) k ≡ t → f ≤ cond t 4294967295 (get_or F (k - 1) no_find).distance → nearer f F < k
    go true e h = let n = count_by-le-length (λ (x : Find). ltb x.distance f) F in omega (arith, ltb-true (length F) k e)
    go false e h =
        let l = ltb-false (length F) k e in
        let n = count_some (λ (x : Find). ltb x.distance f) F (k - 1) no_find (omega arith) (le-ltb (get_or F (k - 1) no_find).distance f h) in
        omega arith

-- a floor within the reach of the finds so far is within that of all finds, where none to come lies below it
pub reach_within : (k : ℕ) (F U : List Find) (f : ℕ) → 1 ≤ k → length F ≤ k → f ≤ 4294967295 → AllByRecursion (λ y. f ≤ y.distance) U → f ≤ reach k F
    → f ≤ reach k (take k (ranked ahead (F ++ U)))
reach_within k F U f one short small above h =
    let p : Find → Bool = λ x. ltb x.distance f in
    let c : Find → ℕ = λ x. cond (p x) 1 0 in
    let S = ranked ahead (F ++ U) in
    let now = few_within k F f one short h in
    let none : count_by p U ≡ 0 = count_none p U (All-weaker (λ y. f ≤ y.distance) (λ y. p y ≡ false) (λ y l. le-ltb y.distance f l) U above) in
    let both = sum_by-append c F U in
    let same : count_by p (F ++ U) ≡ count_by p S = sum_same c (ranked_holds ahead (F ++ U)) in
    let n = length-take k S in
    cond_both (ltb (length (take k S)) k) 4294967295 (get_or (take k S) (k - 1) no_find).distance (λ x. f ≤ x) (λ e. small)
    (λ e.
    let l = ltb-false (length (take k S)) k e in
    let m : k - 1 < length S = omega arith in
    let at = few_then f S (k - 1) no_find (ranked_in_rank ahead ahead_order (F ++ U)) m (omega arith) in
    subst (λ x. f ≤ x.distance) (sym (get_or-take k S (k - 1) no_find (omega arith))) at)

-- a floor above it: k are found, and all lie below the floor
pub reach_above : (k : ℕ) (F : List Find) (f : ℕ) → 1 ≤ k → length F ≤ k → InRank ahead F → f ≤ 4294967295 → reach k F < f
    → (length F ≡ k) × AllByRecursion (λ y. y.distance < f) F
reach_above k F f one short r small h = go (ltb (length F) k) refl h
  where
    go : (b : Bool) → ltb (length F) k ≡ b → cond b 4294967295 (get_or F (k - 1) no_find).distance < f → (length F ≡ k) × AllByRecursion (λ y. y.distance < f) F
    go true e h = absurd (let z : 4294967295 < f = h in omega arith)
    go false e h =
        let l = ltb-false (length F) k e in
        let m : length F ≡ suc (k - 1) = omega arith in
        (omega arith, all_nearer f F (k - 1) no_find r m h)
