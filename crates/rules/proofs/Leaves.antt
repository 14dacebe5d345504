-- What withdrawing a clip does to the build and to the rows.
use Rattle.std.proofs.Common.{◌≡◌, ℕ, zero, suc, ◌<◌, ◌≤◌, Bool, true, false, cond, ltb, List, [], ◌∷◌, ◌++◌, length, take, drop, set, sym, refl, ap, ◌∙◌, subst, subst₂, arith, length-set}
use Rattle.std.specs.List.{AllByRecursion}
use Rattle.std.proofs.lemmas.List.{append-nil, append_assoc}
use Rattle.std.proofs.ByRecursion.{All-append, All-set, All-get_or, All-take, All-drop}
use Rattle.std.proofs.lemmas.Bool.{ltb-false, cond_both}
use Rattle.space.specs.Row.{Row}
use Rattle.rules.specs.Tree.{Entry, boxed, rows_below}
use Rattle.rules.specs.Enter.{entries_at}
use Rattle.rules.specs.Rows.{lists, without}
use Rattle.rules.specs.Withdraw.{holder, kept, withdraw_below}
use Rattle.ranked.specs.Same.{Same, then}
use Rattle.ranked.proofs.Sames.{same_from, same_after, same_before, same_swap, same_gather}
use Rattle.rules.proofs.Builds.{Good, good_all, good_below, bare}
use Rattle.rules.proofs.Rows.{rows_append, rows_at, rows_set}
use Rattle.rules.proofs.Times.{times, times_append, listed_times, unlisted_times, without_append, without_none, length_without}

-- ---- the box that has the number below it
pub holder_holds : (h n : ℕ) (es : List (Entry (suc h))) → 1 ≤ times n (rows_below (suc h) es)
    → (holder h n es < length es) × (1 ≤ times n (rows_below h (entries_at h es (holder h n es))))
holder_holds h n [] l = absurd (omega arith)
holder_holds h n (b ∷ bs) l = go (lists n (rows_below h b.entries)) refl (holder_holds h n bs)
  where
    go : (t : Bool) → lists n (rows_below h b.entries) ≡ t
        → (1 ≤ times n (rows_below (suc h) bs) → (holder h n bs < length bs) × (1 ≤ times n (rows_below h (entries_at h bs (holder h n bs)))))
        → (cond t 0 (suc (holder h n bs)) < suc (length bs)) × (1 ≤ times n (rows_below h (entries_at h (b ∷ bs) (cond t 0 (suc (holder h n bs))))))
    go true e more = (omega arith, listed_times n (rows_below h b.entries) e)
    go false e more =
        let k = more (omega (arith, unlisted_times n (rows_below h b.entries) e, times_append n (rows_below h b.entries) (rows_below (suc h) bs))) in
        (omega (arith, k.0), k.1)

-- ---- what a withdrawal leaves
-- of the entries es, without the number n: o.0 stay, and the rows o.1 are set aside
pub record Left (d h : ℕ) (es : List (Entry h)) (n : ℕ) (o : List (Entry h) × List Row) : Type 0 where
  pub good : AllByRecursion (Good d h) o.0
  pub most : length o.0 ≤ length es
  pub least : length es ≤ suc (length o.0)
  pub rows : Same (rows_below h o.0 ++ o.1) (without n (rows_below h es))

all_rows : (d : ℕ) (es : List Row) → AllByRecursion (Good d zero) es
all_rows d es = good_all d zero es tt

-- the rest of a list, when one of its places is taken out
length_out : {E : Type 0} (es : List E) (p : ℕ) → p < length es → suc (length (take p es ++ drop (suc p) es)) ≡ length es
length_out [] p l = absurd (omega arith)
length_out (e ∷ es) zero l = refl
length_out (e ∷ es) (suc p) l = ap suc (length_out es p (omega arith))

-- the rows without n, where n stands below the place p alone
without_at : (h n : ℕ) (es : List (Entry (suc h))) (p : ℕ) → p < length es → 1 ≤ times n (rows_below h (entries_at h es p)) → times n (rows_below (suc h) es) ≤ 1
    → without n (rows_below (suc h) es) ≡ rows_below (suc h) (take p es) ++ (without n (rows_below h (entries_at h es p)) ++ rows_below (suc h) (drop (suc p) es))
without_at h n es p l one once =
    let A = rows_below (suc h) (take p es) in
    let K = rows_below h (entries_at h es p) in
    let B = rows_below (suc h) (drop (suc p) es) in
    let whole : times n (rows_below (suc h) es) ≡ times n (A ++ (K ++ B)) = ap (times n) (rows_at h es p l) in
    let parts = times_append n A (K ++ B) in
    let part = times_append n K B in
    let a : times n A ≡ 0 = omega arith in
    let b : times n B ≡ 0 = omega arith in
    ap (without n) (rows_at h es p l) ∙ without_append n A (K ++ B) ∙ ap (λ x. x ++ without n (K ++ B)) (without_none n A a)
    ∙ ap (λ x. A ++ x) (without_append n K B ∙ ap (λ x. without n K ++ x) (without_none n B b))

module _ (d h : ℕ) (es : List (Entry (suc h))) (n p : ℕ) (left : List (Entry h)) (aside : List Row) where
  module _ (in-es : p < length es) (one : 1 ≤ times n (rows_below h (entries_at h es p))) (once : times n (rows_below (suc h) es) ≤ 1)
      (all : AllByRecursion (Good d (suc h)) es) (k : Left d h (entries_at h es p) n (left, aside)) where
    -- the box is dissolved
    rest_out : Left d (suc h) es n (take p es ++ drop (suc p) es, aside ++ rows_below h left)
    rest_out =
        let A = rows_below (suc h) (take p es) in
        let L = rows_below h left in
        let B = rows_below (suc h) (drop (suc p) es) in
        let W = without n (rows_below h (entries_at h es p)) in
        let long = length_out es p in-es in
        record {
          good = All-append (Good d (suc h)) (take p es) (drop (suc p) es) (All-take (Good d (suc h)) p es all) (All-drop (Good d (suc h)) (suc p) es all);
          most = omega arith;
          least = omega arith;
          rows =
              subst₂ (λ x y. Same (x ++ (aside ++ L)) y) (sym (rows_append (suc h) (take p es) (drop (suc p) es))) (sym (without_at h n es p in-es one once))
              (subst (λ x. Same x (A ++ (W ++ B))) (sym (append_assoc A B (aside ++ L)))
              (same_after A (then (same_swap B (aside ++ L)) (same_before B (then (same_swap aside L) k.rows)))));
        }

    -- the box stays
    rest_in : 3 ≤ length left → Left d (suc h) es n (set es p (boxed d h left), aside)
    rest_in three =
        let A = rows_below (suc h) (take p es) in
        let L = rows_below h left in
        let B = rows_below (suc h) (drop (suc p) es) in
        let W = without n (rows_below h (entries_at h es p)) in
        let c = All-get_or (Good d (suc h)) es p (bare h) in-es all in
        let long = length-set es p (boxed d h left) in
        record {
          good = All-set (Good d (suc h)) es p (boxed d h left) (three, omega (arith, c.1, k.most), refl, good_below d h left k.good) all;
          most = omega arith;
          least = omega arith;
          rows =
              subst₂ (λ x y. Same (x ++ aside) y) (sym (rows_set h es p (boxed d h left) in-es)) (sym (without_at h n es p in-es one once))
              (then (same_gather A L B aside) (same_after A (same_before B k.rows)));
        }

    pub rest_left : Left d (suc h) es n (kept d h es p left aside)
    rest_left =
        cond_both (ltb (length left) 3) (take p es ++ drop (suc p) es, aside ++ rows_below h left) (set es p (boxed d h left), aside) (Left d (suc h) es n)
        (λ _. rest_out) (λ e. rest_in (ltb-false (length left) 3 e))

pub withdraw_left : (d h : ℕ) (es : List (Entry h)) (n : ℕ) → AllByRecursion (Good d h) es → 1 ≤ times n (rows_below h es) → times n (rows_below h es) ≤ 1 → Left d h es n (withdraw_below d h es n)
withdraw_left d zero es n g one once =
    record {
      good = all_rows d (without n es);
      most = omega (arith, length_without n es);
      least = omega (arith, length_without n es);
      rows = same_from (append-nil (without n es));
    }
withdraw_left d (suc h) es n g one once =
    let p = holder h n es in
    let k = holder_holds h n es one in
    let c = All-get_or (Good d (suc h)) es p (bare h) k.0 g in
    let parts = times_append n (rows_below (suc h) (take p es)) (rows_below h (entries_at h es p) ++ rows_below (suc h) (drop (suc p) es)) in
    let part = times_append n (rows_below h (entries_at h es p)) (rows_below (suc h) (drop (suc p) es)) in
    let o = withdraw_below d h (entries_at h es p) n in
    rest_left d h es n p o.0 o.1 k.0 k.1 once g
    (withdraw_left d h (entries_at h es p) n (good_all d h (entries_at h es p) c.3) k.1
    (omega (arith, ap (times n) (rows_at h es p k.0))))
