-- Entering a clip adds its row, and loses none.
use Rattle.std.proofs.Common.{◌≡◌, ℕ, zero, suc, ◌+◌, ◌/◌, ◌<◌, ◌≤◌, Bool, true, false, cond, List, [], ◌∷◌, ◌++◌, map, length, get_or, take, drop, set, Some, None, Option, sym, refl, ap, ◌∙◌, subst, subst₂, add-one, arith}
use Rattle.std.specs.List.{AllByRecursion}
use Rattle.std.proofs.lemmas.List.{append-nil, append_assoc, length_push, drop_more, take-append-drop, set_split}
use Rattle.std.proofs.ByRecursion.{All-get_or}
use Rattle.space.specs.Boxes.{has}
use Rattle.rules.specs.Choice.{chosen}
use Rattle.rules.specs.Division.{alike, group}
use Rattle.space.specs.Row.{Row}
use Rattle.rules.specs.Tree.{Box, Entry, Tree, sets_of, rows_below, rows_in, boxes_from, boxes_in}
use Rattle.rules.specs.Enter.{Grown, extra, parted, fitted, entries_at, enter_below, rooted, entered, entered_all}
use Rattle.rules.specs.Build.{Build}
use Rattle.ranked.specs.Same.{Same, none, then}
use Rattle.ranked.proofs.Sames.{same_refl, same_from, same_sym, same_after, same_swap, same_to_front, same_rotate, same_exchange}
use Rattle.rules.proofs.Builds.{Good, good_all, bare, fitted_by, chosen_below, SomeOf, some_three, some_few, length_extra, up_long, entered_build}

-- ---- the rows below entries that are put together
pub rows_append : (h : ℕ) (xs ys : List (Entry h)) → rows_below h (xs ++ ys) ≡ rows_below h xs ++ rows_below h ys
rows_append zero xs ys = refl
rows_append (suc h) [] ys = refl
rows_append (suc h) (b ∷ xs) ys = ap (λ l. rows_below h b.entries ++ l) (rows_append (suc h) xs ys) ∙ sym (append_assoc (rows_below h b.entries) (rows_below (suc h) xs) (rows_below (suc h) ys))

rows_cons : (h : ℕ) (e : Entry h) (es : List (Entry h)) → rows_below h (e ∷ es) ≡ rows_below h (e ∷ []) ++ rows_below h es
rows_cons h e es = rows_append h (e ∷ []) es

-- a list, split at one of its places
pub split_at : {E : Type 0} (es : List E) (p : ℕ) (e : E) → p < length es → es ≡ take p es ++ (get_or es p e ∷ drop (suc p) es)
split_at es p e l = sym (take-append-drop p es) ∙ ap (λ x. take p es ++ x) (drop_more es p e l ∙ ap (λ n. get_or es p e ∷ drop n es) (add-one p))

-- the rows of a list of boxes, split at one
pub rows_at : (h : ℕ) (es : List (Entry (suc h))) (p : ℕ) → p < length es
    → rows_below (suc h) es ≡ rows_below (suc h) (take p es) ++ (rows_below h (entries_at h es p) ++ rows_below (suc h) (drop (suc p) es))
rows_at h es p l = ap (rows_below (suc h)) (split_at es p (bare h) l) ∙ rows_append (suc h) (take p es) (get_or es p (bare h) ∷ drop (suc p) es)

pub rows_set : (h : ℕ) (es : List (Entry (suc h))) (p : ℕ) (b : Box (Entry h)) → p < length es
    → rows_below (suc h) (set es p b) ≡ rows_below (suc h) (take p es) ++ (rows_below h b.entries ++ rows_below (suc h) (drop (suc p) es))
rows_set h es p b l = ap (rows_below (suc h)) (set_split es p b l) ∙ rows_append (suc h) (take p es) (b ∷ drop (suc p) es)

-- ---- a division keeps the rows
side : (h : ℕ) (t : Bool) (e : Entry h) (es f u : List (Entry h)) → Same (rows_below h es) (rows_below h f ++ rows_below h u)
    → Same (rows_below h (e ∷ es)) (rows_below h (cond (alike false t) (e ∷ f) f) ++ rows_below h (cond (alike true t) (e ∷ u) u))
side h true e es f u s =
    subst₂ (λ x y. Same x (rows_below h f ++ y)) (sym (rows_cons h e es)) (sym (rows_cons h e u))
    (then (same_after (rows_below h (e ∷ [])) s) (same_rotate (rows_below h (e ∷ [])) (rows_below h f) (rows_below h u)))
side h false e es f u s =
    subst₂ (λ x y. Same x (y ++ rows_below h u)) (sym (rows_cons h e es)) (sym (rows_cons h e f))
    (subst (Same (rows_below h (e ∷ []) ++ rows_below h es)) (sym (append_assoc (rows_below h (e ∷ [])) (rows_below h f) (rows_below h u))) (same_after (rows_below h (e ∷ [])) s))

rows_nil : (h : ℕ) → rows_below h [] ≡ []
rows_nil zero = refl
rows_nil (suc h) = refl

pub group_rows : (h c : ℕ) (es : List (Entry h)) → Same (rows_below h es) (rows_below h (group false c es) ++ rows_below h (group true c es))
group_rows h c [] = subst (λ l. Same l (l ++ l)) (sym (rows_nil h)) none
group_rows h c (e ∷ es) = side h (has c 0) e es (group false (c / 2) es) (group true (c / 2) es) (group_rows h (c / 2) es)

-- the rows of a box and perhaps a second
abbrev pub rows_of : (h : ℕ) → Grown h → List Row
rows_of h g = rows_below (suc h) (g.0 ∷ extra g.1)

pub parted_rows : (d h : ℕ) (es : List (Entry h)) (code : ℕ) → Same (rows_below h es) (rows_of h (parted d h es code))
parted_rows d h es code = subst (λ x. Same (rows_below h es) (rows_below h (group false code es) ++ x)) (sym (append-nil (rows_below h (group true code es)))) (group_rows h code es)

pub fitted_rows : (d h : ℕ) (es : List (Entry h)) → length es ≤ 9 → Same (rows_below h es) (rows_of h (fitted d h es))
fitted_rows d h es l =
    fitted_by d h es (λ g. Same (rows_below h es) (rows_of h g)) l
    (λ _. same_from (sym (append-nil (rows_below h es))))
    (λ code _ _. parted_rows d h es code)

-- ---- one step up: the child at p became g
up_nine : {E : Type 0} (es : List E) (p : ℕ) (a : E) (x : Option E) → length es ≤ 8 → length (set es p a ++ extra x) ≤ 9
up_nine es p a x l = omega (arith, up_long es p a x, length_extra x)

up_rows : (h : ℕ) (es : List (Entry (suc h))) (r : Row) (p : ℕ) (g : Grown h) → p < length es
    → Same (rows_below h (entries_at h es p) ++ r ∷ []) (rows_of h g) → Same (rows_below (suc h) es ++ r ∷ []) (rows_below (suc h) (set es p g.0 ++ extra g.1))
up_rows h es r p g l s =
    let A = rows_below (suc h) (take p es) in
    let B = rows_below (suc h) (drop (suc p) es) in
    let after : rows_below (suc h) (set es p g.0 ++ extra g.1) ≡ (rows_below (suc h) (take p es) ++ (rows_below h g.0.entries ++ rows_below (suc h) (drop (suc p) es))) ++ rows_below (suc h) (extra g.1) =
    rows_append (suc h) (set es p g.0) (extra g.1) ∙ ap (λ x. x ++ rows_below (suc h) (extra g.1)) (rows_set h es p g.0 l) in
    subst₂ (λ x y. Same (x ++ r ∷ []) y) (sym (rows_at h es p l)) (sym after)
    (same_exchange A B (rows_below h (entries_at h es p)) (r ∷ []) (rows_below h g.0.entries) (rows_below (suc h) (extra g.1)) s)

pub enter_rows : (d h : ℕ) (es : List (Entry h)) (r : Row) → length es ≤ 8 → SomeOf h es → AllByRecursion (Good d h) es → Same (rows_below h es ++ r ∷ []) (rows_of h (enter_below d h es r))
enter_rows d zero es r l some g =
    let long : length (es ++ r ∷ []) ≡ length es + 1 = length_push es r in
    fitted_rows d zero (es ++ r ∷ []) (omega arith)
enter_rows d (suc h) es r l some g =
    let p = chosen (map (sets_of (suc h)) es) r.letters in
    let in-es : chosen (map (sets_of (suc h)) es) r.letters < length es = chosen_below (suc h) es r.letters some in
    let c = All-get_or (Good d (suc h)) es p (bare h) in-es g in
    let o = enter_below d h (entries_at h es p) r in
    then (up_rows h es r p o in-es (enter_rows d h (entries_at h es p) r c.1 (some_three h (entries_at h es p) c.0) (good_all d h (entries_at h es p) c.3)))
    (fitted_rows d (suc h) (set es p o.0 ++ extra o.1) (up_nine es p o.0 o.1 l))

-- ---- the whole tree
rooted_rows : (d h : ℕ) (a : Box (Entry h)) (x : Option (Box (Entry h))) → rows_of h (a, x) ≡ rows_in (rooted d h a x)
rooted_rows d h a None = append-nil (rows_below h a.entries)
rooted_rows d h a (Some b) = refl

pub entered_rows : (d : ℕ) (t : Tree) (r : Row) → Build d t → Same (r ∷ rows_in t) (rows_in (entered d t r))
entered_rows d t r b =
    let g = enter_below d t.0 t.1.entries r in
    then (same_swap (r ∷ []) (rows_in t))
    (subst (Same (rows_in t ++ r ∷ [])) (rooted_rows d t.0 g.0 g.1)
    (enter_rows d t.0 t.1.entries r b.many (some_few t.0 t.1.entries b.few) (good_all d t.0 t.1.entries b.below)))

pub entered_all_rows : (d : ℕ) (t : Tree) (rs : List Row) → Build d t → Same (rs ++ rows_in t) (rows_in (entered_all d t rs))
entered_all_rows d t [] b = same_refl (rows_in t)
entered_all_rows d t (r ∷ rs) b =
    then (same_sym (same_to_front rs r (rows_in t)))
    (then (same_after rs (entered_rows d t r b)) (entered_all_rows d (entered d t r) rs (entered_build d t r b)))

-- ---- boxes: entering never makes them fewer
pub boxes_append : (h : ℕ) (xs ys : List (Entry (suc h))) → boxes_from (suc h) (xs ++ ys) + 1 ≡ boxes_from (suc h) xs + boxes_from (suc h) ys
boxes_append h [] ys = omega arith
boxes_append h (b ∷ xs) ys = omega (arith, boxes_append h xs ys)

boxes_set : (h : ℕ) (es : List (Entry (suc h))) (p : ℕ) (b : Box (Entry h)) → p < length es
    → boxes_from (suc h) (set es p b) + boxes_from h (entries_at h es p) ≡ boxes_from (suc h) es + boxes_from h b.entries
boxes_set h [] p b l = absurd (omega arith)
boxes_set h (e ∷ es) zero b l = omega arith
boxes_set h (e ∷ es) (suc p) b l = omega (arith, boxes_set h es p b (omega arith))

boxes_side : (h : ℕ) (t : Bool) (e : Box (Entry h)) (es f u : List (Entry (suc h))) → boxes_from (suc h) f + boxes_from (suc h) u ≡ suc (boxes_from (suc h) es)
    → boxes_from (suc h) (cond (alike false t) (e ∷ f) f) + boxes_from (suc h) (cond (alike true t) (e ∷ u) u) ≡ suc (boxes_from (suc h) (e ∷ es))
boxes_side h true e es f u q = omega arith
boxes_side h false e es f u q = omega arith

pub group_boxes : (h c : ℕ) (es : List (Entry h)) → boxes_from h (group false c es) + boxes_from h (group true c es) ≡ suc (boxes_from h es)
group_boxes zero c es = refl
group_boxes (suc h) c [] = refl
group_boxes (suc h) c (e ∷ es) = boxes_side h (has c 0) e es (group false (c / 2) es) (group true (c / 2) es) (group_boxes (suc h) (c / 2) es)

abbrev pub boxes_of : (h : ℕ) → Grown h → ℕ
boxes_of h g = boxes_from (suc h) (g.0 ∷ extra g.1)

fitted_boxes : (d h : ℕ) (es : List (Entry h)) → length es ≤ 9 → suc (boxes_from h es) ≤ boxes_of h (fitted d h es)
fitted_boxes d h es l =
    fitted_by d h es (λ g. suc (boxes_from h es) ≤ boxes_of h g) l (λ _. omega arith) (λ code _ _. omega (arith, group_boxes h code es))

pub enter_boxes : (d h : ℕ) (es : List (Entry h)) (r : Row) → length es ≤ 8 → SomeOf h es → AllByRecursion (Good d h) es → suc (boxes_from h es) ≤ boxes_of h (enter_below d h es r)
enter_boxes d zero es r l some g =
    let long : length (es ++ r ∷ []) ≡ length es + 1 = length_push es r in
    fitted_boxes d zero (es ++ r ∷ []) (omega arith)
enter_boxes d (suc h) es r l some g =
    let p = chosen (map (sets_of (suc h)) es) r.letters in
    let in-es : chosen (map (sets_of (suc h)) es) r.letters < length es = chosen_below (suc h) es r.letters some in
    let c = All-get_or (Good d (suc h)) es p (bare h) in-es g in
    let o = enter_below d h (entries_at h es p) r in
    let child : suc (boxes_from h (entries_at h es p)) ≤ boxes_of h o = enter_boxes d h (entries_at h es p) r c.1 (some_three h (entries_at h es p) c.0) (good_all d h (entries_at h es p) c.3) in
    let more : suc (boxes_from (suc h) (set es p o.0 ++ extra o.1)) ≤ boxes_of (suc h) (enter_below d (suc h) es r) = fitted_boxes d (suc h) (set es p o.0 ++ extra o.1) (up_nine es p o.0 o.1 l) in
    omega (arith, boxes_append h (set es p o.0) (extra o.1), boxes_set h es p o.0 in-es)

rooted_boxes : (d h n : ℕ) (a : Box (Entry h)) (x : Option (Box (Entry h))) → suc n ≤ boxes_of h (a, x) → n ≤ boxes_in (rooted d h a x)
rooted_boxes d h n a None l = omega arith
rooted_boxes d h n a (Some b) l = omega arith

pub entered_boxes : (d : ℕ) (t : Tree) (r : Row) → Build d t → boxes_in t ≤ boxes_in (entered d t r)
entered_boxes d t r b =
    let g = enter_below d t.0 t.1.entries r in
    rooted_boxes d t.0 (boxes_in t) g.0 g.1
    (enter_boxes d t.0 t.1.entries r b.many (some_few t.0 t.1.entries b.few) (good_all d t.0 t.1.entries b.below))
