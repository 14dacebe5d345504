-- How many boxes a tree has, and how high it is.
use Rattle.std.proofs.Common.{◌≡◌, ℕ, zero, suc, ◌+◌, ◌*◌, ◌^◌, ◌<◌, ◌≤◌, List, [], ◌∷◌, length, ⊎_elim, mul_comm, mul-le-mul_left, one-mul, pow-suc, mul-zero, mul-suc, arith, length-append}
use native.Mathlib.Nat.{pow-le-pow_right}
use Rattle.std.proofs.lemmas.Bool.{cases_lt}
use Rattle.rules.specs.Tree.{Box, Entry, rows_below, rows_in, boxes_from}
use Rattle.rules.specs.Build.{Below, Build}
use Rattle.rules.specs.LawsTree.{FewBoxes, LowTree}

few_below : (d h : ℕ) (es : List (Entry h)) → Below d h es → 2 * boxes_from h es + length es ≤ length (rows_below h es) + 2
few_below d zero es b = omega arith
few_below d (suc h) [] b = omega arith
few_below d (suc h) (e ∷ es) b =
    let one = few_below d h e.entries b.3 in
    let rest = few_below d (suc h) es b.4 in
    omega (arith, length-append (rows_below h e.entries) (rows_below (suc h) es), b.0)

few_at : (d h : ℕ) (root : Box (Entry h)) → Build d (h, root) → 2 ≤ length (rows_below h root.entries) → 2 * boxes_from h root.entries ≤ length (rows_below h root.entries)
few_at d zero root b two = omega arith
few_at d (suc h) root b two = let below = few_below d (suc h) root.entries b.below in omega (arith, b.few)

pub few_boxes : FewBoxes
few_boxes d t b two = few_at d t.0 t.1 b two

-- ---- the height
-- each box of height h that is not the root has at least 3 ^ (h + 1) rows below it
rows_below_lem : (d h : ℕ) (es : List (Entry h)) → Below d h es → 3 ^ h * length es ≤ length (rows_below h es)
rows_below_lem d zero es b = let e : 3 ^ 0 * length es ≡ length es = one-mul (length es) in omega arith
rows_below_lem d (suc h) [] b = let e : 3 ^ suc h * 0 ≡ 0 = mul-zero (3 ^ suc h) in omega arith
rows_below_lem d (suc h) (e ∷ es) b =
    let one = rows_below_lem d h e.entries b.3 in
    let rest = rows_below_lem d (suc h) es b.4 in
    let three : 3 ^ h * 3 ≤ 3 ^ h * length e.entries = mul-le-mul_left (3 ^ h) b.0 in
    let p : 3 ^ suc h ≡ 3 ^ h * 3 = pow-suc 3 h in
    let q : 3 ^ suc h * suc (length es) ≡ 3 ^ suc h * length es + 3 ^ suc h = mul-suc (3 ^ suc h) (length es) in
    omega (arith, length-append (rows_below h e.entries) (rows_below (suc h) es))

low_at : (d h : ℕ) (root : Box (Entry h)) → Build d (h, root) → 1 ≤ h → 2 * 3 ^ h ≤ length (rows_below h root.entries)
low_at d zero root b l = absurd (omega arith)
low_at d (suc h) root b l =
    let rows = rows_below_lem d (suc h) root.entries b.below in
    let two : 3 ^ suc h * 2 ≤ 3 ^ suc h * length root.entries = mul-le-mul_left (3 ^ suc h) b.few in
    let e : 2 * 3 ^ suc h ≡ 3 ^ suc h * 2 = mul_comm 2 (3 ^ suc h) in
    omega arith

pub low_tree : LowTree
low_tree d t b = ((λ l. low_at d t.0 t.1 b l), (λ few. ⊎_elim (λ (h : 6 < t.0). absurd (high h few)) (λ (h : t.0 ≤ 6). h) (cases_lt 6 t.0)))
  where
    high : 6 < t.0 → length (rows_in t) ≤ 4096 → ⊥
    high h few =
        let many = low_at d t.0 t.1 b (omega arith) in
        let p : 3 ^ 7 ≤ 3 ^ t.0 = pow-le-pow_right (let z : 0 < 3 = omega arith in z) h in
        omega arith
