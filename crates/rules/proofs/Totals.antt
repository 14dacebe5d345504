-- Sums over what waits.
use Rattle.std.proofs.Common.{◌≡◌, ℕ, suc, ◌+◌, ◌≤◌, List, [], ◌∷◌, ◌++◌, length, refl, ap, ◌∙◌, arith}
use Rattle.std.specs.List.{AllByRecursion}
use Rattle.ranked.specs.Same.{Same, none, keep, turn, then}
use Rattle.rules.specs.Going.{total}

module _ {X : Type 0} (f : X → ℕ) where
  pub total_same : {xs ys : List X} → Same xs ys → total f xs ≡ total f ys
  total_same none = refl
  total_same (keep {x = x} s) = ap (λ n. f x + n) (total_same s)
  total_same turn = omega arith
  total_same (then s t) = total_same s ∙ total_same t

  pub total_append : (xs ys : List X) → total f (xs ++ ys) ≡ total f xs + total f ys
  total_append [] ys = omega arith
  total_append (x ∷ xs) ys = let more = total_append xs ys in omega arith

  pub total_none : (xs : List X) → AllByRecursion (λ x. f x ≡ 0) xs → total f xs ≡ 0
  total_none [] a = refl
  total_none (x ∷ xs) a = let more = total_none xs a.1 in omega (arith, a.0)

  pub length_total : (xs : List X) → AllByRecursion (λ x. 1 ≤ f x) xs → length xs ≤ total f xs
  length_total [] a = omega arith
  length_total (x ∷ xs) a = let more = length_total xs a.1 in omega (arith, a.0)

  -- One of those that wait is opened and others come to wait: how many are opened in all stays as it was, where it opens one more than they do,
  -- and what is left falls, where they have less than it has.
  module _ (x : X) (news xs : List X) {ys : List X} (s : Same ys (news ++ xs)) where
    pub total_opened : (n all : ℕ) → f x ≡ suc (total f news) → n + total f (x ∷ xs) ≡ all → suc n + total f ys ≡ all
    total_opened n all one e = let a = total_same s in let b = total_append news xs in omega arith

    pub total_falls : suc (total f news) ≤ f x → suc (total f ys) ≤ total f (x ∷ xs)
    total_falls one = let a = total_same s in let b = total_append news xs in omega arith
