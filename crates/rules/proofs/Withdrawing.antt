-- The laws of withdrawing.
use Rattle.std.proofs.Common.{◌≡◌, ℕ, zero, suc, ◌≤◌, List, [], ◌∷◌, ◌++◌, length, sym, refl, subst, arith}
use Rattle.std.specs.List.{AllByRecursion}
use Rattle.std.proofs.lemmas.List.{append-nil, length-append}
use Rattle.rules.specs.Tree.{Entry, rows_below, rows_in}
use Rattle.rules.specs.Rows.{without, rising}
use Rattle.rules.specs.Withdraw.{withdraw_below, settled}
use Rattle.rules.specs.Build.{Build, fewest}
use Rattle.ranked.specs.Same.{Same, then}
use Rattle.rules.specs.LawsWithdraw.{left_in, aside_in, WithdrawingLeaves, WithdrawingKeeps}
use Rattle.ranked.proofs.Sames.{same_sym, length_same, same_before, same_swap}
use Rattle.rules.proofs.Builds.{Good, good_all, good_below, entered_all_build}
use Rattle.rules.proofs.Rows.{entered_all_rows}
use Rattle.rules.proofs.Times.{times, listed_times, length_without, once_single}
use Rattle.rules.proofs.Leaves.{withdraw_left}
use Rattle.rules.proofs.Risings.{rising_same}

-- at least one entry less than a root has
abbrev left_some : ℕ → ℕ → Type 0
left_some zero n = Unit {0}
left_some (suc h) n = 1 ≤ n

some_left : (h m n : ℕ) → fewest h ≤ m → m ≤ suc n → left_some h n
some_left zero m n a b = tt
some_left (suc h) m n a b = omega arith

fewest_three : (h n : ℕ) → 3 ≤ n → fewest h ≤ n
fewest_three zero n l = omega arith
fewest_three (suc h) n l = omega arith

settled_build : (d h : ℕ) (es : List (Entry h)) → left_some h (length es) → length es ≤ 8 → AllByRecursion (Good d h) es → Build d (settled d h es)
settled_build d zero es some l g = record { few = omega arith; many = l; root = refl; below = tt }
settled_build d (suc h) [] some l g = absurd (omega arith)
settled_build d (suc h) (b ∷ []) some l g =
    record { few = fewest_three h (length b.entries) g.0.0; many = g.0.1; root = g.0.2; below = g.0.3 }
settled_build d (suc h) (b ∷ c ∷ bs) some l g = record { few = omega arith; many = l; root = refl; below = good_below d (suc h) (b ∷ c ∷ bs) g }

settled_rows : (d h : ℕ) (es : List (Entry h)) → rows_in (settled d h es) ≡ rows_below h es
settled_rows d zero es = refl
settled_rows d (suc h) [] = refl
settled_rows d (suc h) (b ∷ []) = sym (append-nil (rows_below h b.entries))
settled_rows d (suc h) (b ∷ c ∷ bs) = refl

pub withdrawing_leaves : WithdrawingLeaves
withdrawing_leaves d t n b o l =
    let one : 1 ≤ times n (rows_in t) = listed_times n (rows_in t) l in
    let k = withdraw_left d t.0 t.1.entries n (good_all d t.0 t.1.entries b.below) one (once_single (rows_in t) o n) in
    let left = (withdraw_below d t.0 t.1.entries n).0 in
    let rows = subst (λ x. Same (x ++ aside_in d t n) (without n (rows_in t))) (sym (settled_rows d t.0 left)) k.rows in (
      settled_build d t.0 left (some_left t.0 (length t.1.entries) (length left) b.few k.least) (omega (arith, k.most, b.many)) k.good,
      rows,
      omega (arith, length_same rows, length-append (rows_in (left_in d t n)) (aside_in d t n), length_without n (rows_in t)),
    )

pub withdrawing_keeps : WithdrawingKeeps
withdrawing_keeps d t n b o l =
    let k = withdrawing_leaves d t n b o l in
    let aside = aside_in d t n in (
      entered_all_build d (left_in d t n) (rising aside) k.0,
      then (same_sym k.1)
          (then (same_swap (rows_in (left_in d t n)) aside)
          (then (same_before (rows_in (left_in d t n)) (rising_same aside)) (entered_all_rows d (left_in d t n) (rising aside) k.0))),
    )
