-- The least of some scores, as `min` picks it.
use Rattle.std.proofs.Common.{◌≡◌, ℕ, zero, suc, ◌+◌, ◌<◌, Bool, true, false, cond, ◌&&◌, ltb, List, ◌∷◌, map, fold, None, Some, Option, sym, refl, ap, ◌∙◌, add-one, arith}
use lib.Count.{ones}
use Rattle.std.specs.declared.cmp.Ordering.{Ordering}
use Rattle.std.specs.declared.cmp.Ordering.TheVariants.{Less, Equal, Greater}
use Rattle.std.specs.List.{filter, range_with_len, reduce}
use Rattle.std.specs.Option.{option_map}
use Rattle.std.specs.Ordering.{is_gt, min_by_ordering, nat_cmp, ordering_then}
use Rattle.std.proofs.lemmas.Bool.Decides.{nat_tests}
use Rattle.rules.specs.Choice.{Score, first_least, less, lex}
use Rattle.rules.proofs.Choices.{first_least_lem}
use Rattle.tree.proofs.Choosing.{least_first}
use Rattle.rules.specs.Division.{divides, parting, best_below}
use Rattle.tree.specs.Nodes.{divided}

-- the lesser of two by a test, and of two that tie the first
abbrev pub lesser_by : {X : Type 0} → (X → X → Bool) → X → X → X
lesser_by test a b = cond (test b a) b a

abbrev pub lesser : Score → Score → Score
lesser = lesser_by less

-- a score with its place, which comes last
abbrev pub Placed : Type 0
Placed = Score × ℕ

abbrev ahead : Placed → Placed → Bool
ahead x y = lex x.0.0 y.0.0 (lex x.0.1 y.0.1 (lex x.0.2 y.0.2 (ltb x.1 y.1)))

abbrev pub first_of : Placed → Placed → Placed
first_of = lesser_by ahead

-- ---- the order of a struct against the order of scores
is_gt_then : (a b : ℕ) (o : Ordering) (t : Bool) → is_gt o ≡ t → is_gt (ordering_then (nat_cmp a b) o) ≡ lex b a t
is_gt_then a b o t e = grind (arith, nat_tests)

is_gt_last : (a b : ℕ) → is_gt (nat_cmp a b) ≡ ltb b a
is_gt_last a b = grind (arith, nat_tests)

picked : {X Y : Type 0} (v : X → Y) (test : Y → Y → Bool) (o : Ordering) (p z : X) → is_gt o ≡ test (v z) (v p)
    → v (min_by_ordering o p z) ≡ lesser_by test (v p) (v z)
picked v test Less p z e = ap (λ t. cond t (v z) (v p)) e
picked v test Equal p z e = ap (λ t. cond t (v z) (v p)) e
picked v test Greater p z e = ap (λ t. cond t (v z) (v p)) e

-- a struct with such fields, in this order, is compared so
abbrev pub cmp_scores : Score → Score → Ordering
cmp_scores x y = ordering_then (nat_cmp x.0 y.0) (ordering_then (nat_cmp x.1 y.1) (nat_cmp x.2 y.2))

abbrev pub cmp_placed : Placed → Placed → Ordering
cmp_placed x y = ordering_then (nat_cmp x.0.0 y.0.0) (ordering_then (nat_cmp x.0.1 y.0.1) (ordering_then (nat_cmp x.0.2 y.0.2) (nat_cmp x.1 y.1)))

pub picks_lesser : {X : Type 0} (v : X → Score) (p z : X) → v (min_by_ordering (cmp_scores (v p) (v z)) p z) ≡ lesser (v p) (v z)
picks_lesser v p z =
    picked v less _ p z (is_gt_then (v p).0 (v z).0 _ _ (is_gt_then (v p).1 (v z).1 _ _ (is_gt_last (v p).2 (v z).2)))

pub picks_first : {X : Type 0} (v : X → Placed) (p z : X) → v (min_by_ordering (cmp_placed (v p) (v z)) p z) ≡ first_of (v p) (v z)
picks_first v p z =
    picked v ahead _ p z
    (is_gt_then (v p).0.0 (v z).0.0 _ _ (is_gt_then (v p).0.1 (v z).0.1 _ _ (is_gt_then (v p).0.2 (v z).0.2 _ _ (is_gt_last (v p).1 (v z).1))))

-- ---- the first least score
module _ (score : ℕ → Score) where
  abbrev at : ℕ → Placed
  at i = (score i, i)

  -- of two the later comes first only if it is less
  later : (i j : ℕ) → i < j → ahead (at j) (at i) ≡ less (score j) (score i)
  later i j h = grind (arith, nat_tests)

  least_from : (n a : ℕ) → fold first_of (at (first_least score (suc a))) (map at (range_with_len (suc a) n)) ≡ at (first_least score (suc a + n))
  least_from zero a = let e : suc a ≡ suc a + 0 = omega arith in ap (λ m. at (first_least score m)) e
  least_from (suc n) a =
      let z : suc (suc a) + n ≡ suc a + suc n = omega arith in
      let b = first_least score (suc a) in
      let here = later (first_least score (suc a)) (suc a) (first_least_lem score a).0 in
      let step : first_of (at b) (at (suc a)) ≡ at (first_least score (suc (suc a)))
      = ap (λ t. cond t (at (suc a)) (at b)) here ∙ pull (less (score (suc a)) (score b)) (suc a) b in
      ap (λ x. fold first_of x (map at (range_with_len (suc a + 1) n))) step
      ∙ ap (λ k. fold first_of (at (first_least score (suc (suc a)))) (map at (range_with_len k n))) (add-one (suc a))
      ∙ least_from n (suc a) ∙ ap (λ m. at (first_least score m)) z
    where
      pull : (t : Bool) (i j : ℕ) → cond t (at i) (at j) ≡ at (cond t i j)
      pull true i j = refl
      pull false i j = refl

  pub least_reduced : (n : ℕ) → 0 < n → reduce first_of (map at (range_with_len 0 n)) ≡ Some (at (first_least score n))
  least_reduced zero h = absurd (omega arith)
  least_reduced (suc n) h =
      let z : 1 + n ≡ suc n = omega arith in
      ap (λ i. Some (fold first_of (at i) (map at (range_with_len 1 n)))) (sym (least_first score))
      ∙ ap Some (least_from n 0 ∙ ap (λ m. at (first_least score m)) z)

-- ---- the best division
module _ (d : ℕ) (bs : List (List ℕ)) where
  abbrev P : ℕ → Score
  P = parting d bs

  -- what the search makes of the codes from a on
  best_step : (a n : ℕ) (rest : List ℕ) → ((s : Score) → s ≡ P (best_below d bs (a + 1)) → fold lesser s (map P rest) ≡ P (best_below d bs n))
      → fold lesser (P (best_below d bs a)) (map P (cond (divides a) (a ∷ rest) rest)) ≡ P (best_below d bs n)
  best_step a n rest more = go (divides a) (less (P a) (P (best_below d bs a))) refl refl
    where
      c : ℕ
      c = best_below d bs a

      next : (t u : Bool) → divides a ≡ t → less (P a) (P c) ≡ u → P (cond (t && u) a c) ≡ P (best_below d bs (a + 1))
      next t u e f =
          ap (λ x. P (cond (x && u) a c)) (sym e) ∙ ap (λ x. P (cond (divides a && x) a c)) (sym f) ∙ ap (λ m. P (best_below d bs m)) (sym (add-one a))

      go : (t u : Bool) → divides a ≡ t → less (P a) (P c) ≡ u → fold lesser (P c) (map P (cond (divides a) (a ∷ rest) rest)) ≡ P (best_below d bs n)
      go true true e f =
          ap (λ t. fold lesser (P c) (map P (cond t (a ∷ rest) rest))) e ∙ more (lesser (P c) (P a)) (ap (λ t. cond t (P a) (P c)) f ∙ next true true e f)
      go true false e f =
          ap (λ t. fold lesser (P c) (map P (cond t (a ∷ rest) rest))) e ∙ more (lesser (P c) (P a)) (ap (λ t. cond t (P a) (P c)) f ∙ next true false e f)
      go false u e f =
          ap (λ t. fold lesser (P c) (map P (cond t (a ∷ rest) rest))) e ∙ more (P c) (next false u e f)

  best_from : (n a : ℕ) → fold lesser (P (best_below d bs a)) (map P (filter divides (range_with_len a n))) ≡ P (best_below d bs (a + n))
  best_from zero a = let e : a ≡ a + 0 = omega arith in ap (λ m. P (best_below d bs m)) e
  best_from (suc n) a =
      let z : a + 1 + n ≡ a + suc n = omega arith in
      best_step a (a + suc n) (filter divides (range_with_len (a + 1) n))
      (λ s e. ap (λ x. fold lesser x (map P (filter divides (range_with_len (a + 1) n)))) e ∙ best_from n (a + 1) ∙ ap (λ m. P (best_below d bs m)) z)

  -- no code below 14 divides
  first_divides : filter divides (range_with_len 0 512) ≡ 14 ∷ filter divides (range_with_len 15 497)
  unfolding ones
  first_divides = refl

  first_best : P (best_below d bs 15) ≡ P 14
  unfolding ones
  first_best = ap P (same (less (P 14) (P 14)))
    where
      same : (t : Bool) → ◌≡◌ {A = ℕ} (cond t 14 14) 14
      same true = refl
      same false = refl

  pub best_reduced : reduce lesser (map P (filter divides (range_with_len 0 512))) ≡ Some (P (divided d bs))
  unfolding divided
  best_reduced =
      ap (λ ks. reduce lesser (map P ks)) first_divides
      ∙ ap (λ x. Some (fold lesser x (map P (filter divides (range_with_len 15 497))))) (sym first_best) ∙ ap Some (best_from 497 15)

pub some_from_map : {X Y : Type 0} (v : X → Y) (r : Option X) (y : Y) → option_map v r ≡ Some y → (x : X) × (r ≡ Some x) × (v x ≡ y)
some_from_map v None y e = absurd (cc)
some_from_map v (Some x) y e = (x, refl, cc)
