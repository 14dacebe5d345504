-- What entering a clip does to the build.
use Rattle.std.proofs.Common.{◌≡◌, ℕ, zero, suc, ◌+◌, ◌<◌, ◌≤◌, true, false, cond, List, [], ◌∷◌, ◌++◌, map, length, set, Some, None, Option, sym, refl, ap, ◌∙◌, subst, ⊎_elim, arith, length-set}
use Rattle.std.specs.List.{AllByRecursion}
use Rattle.std.proofs.lemmas.List.{length-map, length-append, length_push}
use Rattle.std.proofs.ByRecursion.{All-append, All-set, All-get_or, All-push}
use Rattle.std.proofs.lemmas.Bool.{cases_lt, le-leb, lt-leb, cond_both}
use Rattle.rules.specs.Choice.{Score, less, first_least, growth, chosen}
use Rattle.rules.specs.Division.{group, division}
use Rattle.space.specs.Row.{Row}
use Rattle.rules.specs.Tree.{Box, Entry, Tree, sets_of, boxed, empty}
use Rattle.rules.specs.Enter.{Grown, extra, parted, fitted, entries_at, enter_below, rooted, entered, entered_all}
use Rattle.rules.specs.Build.{Smallest, Below, Build, fewest}
use Rattle.rules.proofs.Groups.{Code, division_code, group_few, all_group}

-- ---- the build below, entry by entry
abbrev pub Good : ℕ → (h : ℕ) → Entry h → Type 0
Good d zero r = Unit {0}
Good d (suc h) b = (3 ≤ length b.entries) × (length b.entries ≤ 8) × Smallest d h b × Below d h b.entries

pub good_all : (d h : ℕ) (es : List (Entry h)) → Below d h es → AllByRecursion (Good d h) es
good_all d zero [] b = tt
good_all d zero (e ∷ es) b = (tt, good_all d zero es tt)
good_all d (suc h) [] b = tt
good_all d (suc h) (e ∷ es) b = ((b.0, b.1, b.2, b.3), good_all d (suc h) es b.4)

pub good_below : (d h : ℕ) (es : List (Entry h)) → AllByRecursion (Good d h) es → Below d h es
good_below d zero es g = tt
good_below d (suc h) [] g = tt
good_below d (suc h) (e ∷ es) g = (g.0.0, g.0.1, g.0.2, g.0.3, good_below d (suc h) es g.1)

-- ---- what a list of entries becomes in a box
abbrev pub bare : (h : ℕ) → Box (Entry h)
bare h = record { sets = []; entries = [] }

-- up to eight entries are one box; more are divided
pub fitted_few : (d h : ℕ) (es : List (Entry h)) → length es ≤ 8 → fitted d h es ≡ (boxed d h es, None)
fitted_few d h es m = ap (λ t. cond t (boxed d h es, None) (parted d h es (division d (map (sets_of h) es)))) (le-leb (length es) 8 m)

pub fitted_many : (d h : ℕ) (es : List (Entry h)) → 8 < length es → fitted d h es ≡ parted d h es (division d (map (sets_of h) es))
fitted_many d h es m = ap (λ t. cond t (boxed d h es, None) (parted d h es (division d (map (sets_of h) es)))) (lt-leb (length es) 8 m)

-- to prove something of what a list of up to nine entries becomes: of the one box, and of the two by any code that divides
pub fitted_by : (d h : ℕ) (es : List (Entry h)) (P : Grown h → Type 0) → length es ≤ 9
    → (length es ≤ 8 → P (boxed d h es, None))
    → ((code : ℕ) → length es ≡ 9 → Code code → P (parted d h es code))
    → P (fitted d h es)
fitted_by d h es P l one two = ⊎_elim many few (cases_lt 8 (length es))
  where
    many : 8 < length es → P (fitted d h es)
    many m = subst P (sym (fitted_many d h es m)) (two (division d (map (sets_of h) es)) (omega arith) (division_code d (map (sets_of h) es)))

    few : length es ≤ 8 → P (fitted d h es)
    few m = subst P (sym (fitted_few d h es m)) (one m)

-- of the second box: if there is none, the first has at least n entries; otherwise both have at least 3
abbrev pub Second : ℕ → (h : ℕ) → ℕ → Box (Entry h) → Option (Box (Entry h)) → Type 0
Second d h n a None = n ≤ length a.entries
Second d h n a (Some b) = (3 ≤ length a.entries) × Good d (suc h) b

-- a box, and perhaps a second, as they should be, made of at least n entries
pub record Made (d h n : ℕ) (g : Grown h) : Type 0 where
  pub smallest : Smallest d h g.0
  pub most : length g.0.entries ≤ 8
  pub good : AllByRecursion (Good d h) g.0.entries
  pub sizes : Second d h n g.0 g.1

pub parted_made : (d h : ℕ) (es : List (Entry h)) (n code : ℕ) → length es ≡ 9 → Code code → AllByRecursion (Good d h) es → Made d h n (parted d h es code)
parted_made d h es n code nine c g =
    let a = group_few code es nine c false in
    let b = group_few code es nine c true in
    record {
      smallest = refl;
      most = omega (arith, a.1);
      good = all_group (Good d h) false code es g;
      sizes = (a.0, (b.0, omega (arith, b.1), refl, good_below d h (group true code es) (all_group (Good d h) true code es g)));
    }

pub fitted_made : (d h n : ℕ) (es : List (Entry h)) → length es ≤ 9 → n ≤ length es → AllByRecursion (Good d h) es → Made d h n (fitted d h es)
fitted_made d h n es l k g =
    fitted_by d h es (Made d h n) l
    (λ m. record { smallest = refl; most = m; good = g; sizes = k })
    (λ code nine c. parted_made d h es n code nine c g)

-- ---- the choice is one of the boxes
least_below : (score : ℕ → Score) (n : ℕ) → first_least score (suc n) < suc n
least_below score zero =
    cond_both (less (score 0) (score 0)) 0 0 (λ x. x < 1) (λ _. omega arith) (λ _. omega arith)
least_below score (suc n) =
    let before : first_least score (suc n) < suc n = least_below score n in
    cond_both (less (score (suc n)) (score (first_least score (suc n)))) (suc n) (first_least score (suc n)) (λ x. x < suc (suc n)) (λ _. omega arith) (λ _. omega arith)

chosen_at : (bs : List (List ℕ)) (v : List ℕ) (n : ℕ) → n ≡ length bs → 0 < n → first_least (growth bs v) n < n
chosen_at bs v zero e l = absurd (omega arith)
chosen_at bs v (suc n) e l = least_below (growth bs v) n

pub chosen_below : (h : ℕ) (es : List (Entry h)) (v : List ℕ) → 0 < length es → chosen (map (sets_of h) es) v < length es
chosen_below h es v l =
    let n : length (map (sets_of h) es) ≡ length es = length-map es (sets_of h) in
    let some : 0 < length (map (sets_of h) es) = omega arith in
    subst (λ m. chosen (map (sets_of h) es) v < m) n (chosen_at (map (sets_of h) es) v (length (map (sets_of h) es)) refl some)

-- ---- one step up: the child at p became g
child_good : (d h n : ℕ) (a : Box (Entry h)) (x : Option (Box (Entry h))) → 3 ≤ n → Made d h n (a, x) → Good d (suc h) a × AllByRecursion (Good d (suc h)) (extra x)
child_good d h n a None l m = ((omega (arith, m.sizes), m.most, m.smallest, good_below d h a.entries m.good), tt)
child_good d h n a (Some b) l m = ((m.sizes.0, m.most, m.smallest, good_below d h a.entries m.good), (m.sizes.1, tt))

pub length_extra : {E : Type 0} (x : Option E) → length (extra x) ≤ 1
length_extra None = omega arith
length_extra (Some e) = omega arith

pub up_long : {E : Type 0} (es : List E) (p : ℕ) (a : E) (x : Option E) → length (set es p a ++ extra x) ≡ length es + length (extra x)
up_long es p a x = length-append (set es p a) (extra x) ∙ ap (λ n. n + length (extra x)) (length-set es p a)

up_made : (d h : ℕ) (es : List (Entry (suc h))) (p : ℕ) (g : Grown h) → length es ≤ 8 → p < length es → AllByRecursion (Good d (suc h)) es
    → Made d h (length (entries_at h es p)) g → Made d (suc h) (length es) (fitted d (suc h) (set es p g.0 ++ extra g.1))
up_made d h es p g l in-es all m =
    let c = All-get_or (Good d (suc h)) es p (bare h) in-es all in
    let q = child_good d h (length (entries_at h es p)) g.0 g.1 c.0 m in
    let long = up_long es p g.0 g.1 in
    let one = length_extra g.1 in
    fitted_made d (suc h) (length es) (set es p g.0 ++ extra g.1) (omega arith) (omega arith)
    (All-append (Good d (suc h)) (set es p g.0) (extra g.1) (All-set (Good d (suc h)) es p g.0 q.0 all) q.1)

-- entries that a box above a leaf may have: at least one
abbrev pub SomeOf : (h : ℕ) → List (Entry h) → Type 0
SomeOf zero es = Unit {0}
SomeOf (suc h) es = 0 < length es

pub some_three : (h : ℕ) (es : List (Entry h)) → 3 ≤ length es → SomeOf h es
some_three zero es l = tt
some_three (suc h) es l = omega arith

pub enter_made : (d h : ℕ) (es : List (Entry h)) (r : Row) → length es ≤ 8 → SomeOf h es → AllByRecursion (Good d h) es → Made d h (length es) (enter_below d h es r)
enter_made d zero es r l some g =
    let long : length (es ++ r ∷ []) ≡ length es + 1 = length_push es r in
    fitted_made d zero (length es) (es ++ r ∷ []) (omega arith) (omega arith) (All-push (Good d zero) es r g tt)
enter_made d (suc h) es r l some g =
    let p = chosen (map (sets_of (suc h)) es) r.letters in
    let in-es : chosen (map (sets_of (suc h)) es) r.letters < length es = chosen_below (suc h) es r.letters some in
    let c = All-get_or (Good d (suc h)) es p (bare h) in-es g in
    up_made d h es p (enter_below d h (entries_at h es p) r) l in-es g
    (enter_made d h (entries_at h es p) r c.1 (some_three h (entries_at h es p) c.0) (good_all d h (entries_at h es p) c.3))

-- ---- the whole tree
few_more : (h n m : ℕ) → fewest h ≤ n → n ≤ m → fewest h ≤ m
few_more zero n m a b = omega arith
few_more (suc h) n m a b = omega arith

rooted_build : (d h n : ℕ) (a : Box (Entry h)) (x : Option (Box (Entry h))) → fewest h ≤ n → Made d h n (a, x) → Build d (rooted d h a x)
rooted_build d h n a None two m =
    record { few = few_more h n (length a.entries) two m.sizes; many = m.most; root = m.smallest; below = good_below d h a.entries m.good }
rooted_build d h n a (Some b) two m =
    record {
      few = omega arith;
      many = omega arith;
      root = refl;
      below = good_below d (suc h) (a ∷ b ∷ []) ((m.sizes.0, m.most, m.smallest, good_below d h a.entries m.good), (m.sizes.1, tt));
    }

pub some_few : (h : ℕ) (es : List (Entry h)) → fewest h ≤ length es → SomeOf h es
some_few zero es l = tt
some_few (suc h) es l = omega arith

pub entered_build : (d : ℕ) (t : Tree) (r : Row) → Build d t → Build d (entered d t r)
entered_build d t r b =
    let g = enter_below d t.0 t.1.entries r in
    rooted_build d t.0 (length t.1.entries) g.0 g.1 b.few
    (enter_made d t.0 t.1.entries r b.many (some_few t.0 t.1.entries b.few) (good_all d t.0 t.1.entries b.below))

pub empty_build : (d : ℕ) → Build d (empty d)
empty_build d = record { few = omega arith; many = omega arith; root = refl; below = tt }

pub entered_all_build : (d : ℕ) (t : Tree) (rs : List Row) → Build d t → Build d (entered_all d t rs)
entered_all_build d t [] b = b
entered_all_build d t (r ∷ rs) b = entered_all_build d (entered d t r) rs (entered_build d t r b)
