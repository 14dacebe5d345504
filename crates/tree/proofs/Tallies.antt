-- How many boxes a tree has: each of its places once.
use Rattle.std.proofs.Common.{◌≡◌, ℕ, zero, suc, ◌+◌, ◌*◌, ◌/◌, ◌^◌, ◌<◌, ◌≤◌, max, cond, ltb, List, [], ◌∷◌, map, length, drop, sym, refl, ap, ◌∙◌, ap₂, ⊎_elim, suc-le-suc, zero-le, arith, lit<}
use native.Mathlib.Nat.{le-max_left, le-max_right, max-le, pow-le-pow_right}
use Rattle.std.specs.List.{AllByRecursion}
use Rattle.std.proofs.lemmas.List.{length-drop}
use Rattle.std.proofs.ByRecursion.{All-from_get_or}
use Rattle.std.proofs.lemmas.Bool.{cases_lt, eq-eqb, ne_eqb, lt-ltb}
use Rattle.rules.specs.Tree.{Entry, Tree, rows_in, boxes_from, boxes_in}
use Rattle.rules.specs.Build.{Build}
use Rattle.rules.proofs.Sizes.{few_boxes, low_tree}
use Rattle.tree.specs.declared.node.NodeEntry.{NodeEntry}
use Rattle.tree.specs.declared.node.Node.{Node}
use Rattle.tree.specs.Nodes.{node, inside, spot, place_in, entry_of, one, total, times, Sound, tree_of}
use Rattle.tree.specs.Leaving.{count_in, stock, EachOnce}
use Rattle.tree.proofs.Stacks.{ask_spares}

-- ---- sums over the numbers below n
sum_to : ℕ → (ℕ → ℕ) → ℕ
sum_to zero f = 0
sum_to (suc n) f = sum_to n f + f n

sum_same : (n : ℕ) (f g : ℕ → ℕ) → ((k : ℕ) → k < n → f k ≡ g k) → sum_to n f ≡ sum_to n g
unfolding sum_to
sum_same zero f g h = refl
sum_same (suc n) f g h = ap₂ (λ a b. a + b) (sum_same n f g (λ k l. h k (omega arith))) (h n (omega arith))

sum_add : (n : ℕ) (f g : ℕ → ℕ) → sum_to n (λ k. f k + g k) ≡ sum_to n f + sum_to n g
unfolding sum_to
sum_add zero f g = refl
sum_add (suc n) f g = omega (arith, sum_add n f g)

sum_none : (n : ℕ) → sum_to n (λ k. 0) ≡ 0
unfolding sum_to
sum_none zero = refl
sum_none (suc n) = omega (arith, sum_none n)

one_below : (n i : ℕ) → n ≤ i → sum_to n (one i) ≡ 0
unfolding sum_to
one_below zero i l = refl
one_below (suc n) i l =
    let z : one i n ≡ 0 = ap (λ t. cond t 1 0) (ne_eqb i n (λ e. omega arith)) in omega (arith, one_below n i (omega arith), z)

sum_one : (n i : ℕ) → i < n → sum_to n (one i) ≡ 1
unfolding sum_to
sum_one zero i l = absurd (omega arith)
sum_one (suc n) i l =
    ⊎_elim
    (λ q. let z : one i n ≡ 0 = ap (λ t. cond t 1 0) (ne_eqb i n (λ e. omega arith)) in omega (arith, sum_one n i q, z))
    (λ q. let e : i ≡ n = omega arith in let z : one i n ≡ 1 = ap (λ t. cond t 1 0) (eq-eqb i n e) in omega (arith, one_below n i q, z))
    (cases_lt i n)

sum_total : {E : Type 0} (n : ℕ) (f : E → ℕ → ℕ) (es : List E) → sum_to n (λ k. total (λ e. f e k) es) ≡ total (λ e. sum_to n (f e)) es
sum_total n f [] = sum_none n
sum_total n f (e ∷ es) = sum_add n (f e) (λ k. total (λ x. f x k) es) ∙ ap (λ m. sum_to n (f e) + m) (sum_total n f es)

sum_all : (m n : ℕ) → m ≤ n → sum_to m (λ k. cond (ltb k n) 1 0) ≡ m
unfolding sum_to
sum_all zero n l = refl
sum_all (suc m) n l =
    let z : ◌≡◌ {A = ℕ} (cond (ltb m n) 1 0) 1 = ap (λ t. cond t 1 0) (lt-ltb m n (omega arith)) in omega (arith, sum_all m n (omega arith), z)

total_same : {E : Type 0} (f g : E → ℕ) (P : E → Type 0) (es : List E) → ((e : E) → P e → f e ≡ g e) → AllByRecursion P es → total f es ≡ total g es
total_same f g P [] h a = refl
total_same f g P (e ∷ es) h a = ap₂ (λ x y. x + y) (h e a.0) (total_same f g P es h a.1)

total_map : {E X : Type 0} (f : E → ℕ) (g : X → ℕ) (m : E → X) → ((e : E) → f e ≡ g (m e)) → (es : List E) → total f es ≡ total g (map m es)
total_map f g m h [] = refl
total_map f g m h (e ∷ es) = ap₂ (λ x y. x + y) (h e) (total_map f g m h es)

-- ---- the places of a tree, and the free ones
times_count : (N : List Node) (h : ℕ) (e : NodeEntry) → Sound N h e → sum_to (length N) (times N h e) ≡ count_in N h e
unfolding times count_in Sound
times_count N zero e s = sum_none (length N)
times_count N (suc h) e s =
    let es = inside (node N (place_in e)) in
    sum_add (length N) (one (place_in e)) (λ k. total (λ x. times N h x k) es)
    ∙ ap₂ (λ x y. x + y) (sum_one (length N) (place_in e) s.0)
    (sum_total (length N) (times N h) es ∙ total_same (λ x. sum_to (length N) (times N h x)) (count_in N h) (Sound N h) es (λ x. times_count N h x) s.3)

places_count : (n : ℕ) (ps : List ℕ) → AllByRecursion (λ p. p < n) ps → sum_to n (λ k. total (λ p. one p k) ps) ≡ length ps
places_count n ps a = sum_total n one ps ∙ ones ps a
  where
    ones : (qs : List ℕ) → AllByRecursion (λ p. p < n) qs → total (λ p. sum_to n (one p)) qs ≡ length qs
    ones [] b = refl
    ones (q ∷ qs) b = omega (arith, sum_one n q b.0, ones qs b.1)

-- ---- the boxes of the tree that a table stands for
boxes_from_lem : (h : ℕ) (bs : List (Entry (suc h))) → boxes_from (suc h) bs ≡ 1 + total (λ (b : Entry (suc h)). boxes_from h b.entries) bs
boxes_from_lem h [] = refl
boxes_from_lem h (b ∷ bs) = omega (arith, boxes_from_lem h bs)

count_boxes : (d : ℕ) (N : List Node) (h : ℕ) (e : NodeEntry) → count_in N (suc h) e ≡ boxes_from h (entry_of d N (suc h) e).entries
unfolding count_in entry_of
count_boxes d N zero e = none (inside (node N (place_in e)))
  where
    none : (es : List NodeEntry) → 1 + total (count_in N zero) es ≡ 1
    none [] = refl
    none (x ∷ xs) = omega (arith, none xs)
count_boxes d N (suc h) e =
    ap (λ m. 1 + m) (total_map (count_in N (suc h)) (λ (b : Entry (suc h)). boxes_from h b.entries) (entry_of d N (suc h)) (count_boxes d N h) (inside (node N (place_in e))))
    ∙ sym (boxes_from_lem h (map (entry_of d N (suc h)) (inside (node N (place_in e)))))

-- of each place once, in the tree or on the stack: the stack begins at the number of boxes in use
pub used_count : (N : List Node) (F : List ℕ) (t h i : ℕ) → Sound N (suc h) (spot i) → EachOnce N F t h i → t ≤ length F → length F ≡ length N → t ≡ count_in N (suc h) (spot i)
used_count N F t h i s each high stack =
    let free : AllByRecursion (λ p. p < length N) (drop t F) = All-from_get_or (λ p. p < length N) (drop t F) 0 (ask_spares N F t h i each) in
    let all = sum_same (length N) (λ k. times N (suc h) (spot i) k + stock F t k) (λ k. cond (ltb k (length N)) 1 0) (λ k l. each k) ∙ sum_all (length N) (length N) (omega arith) in
    omega (arith, all, sum_add (length N) (times N (suc h) (spot i)) (stock F t), times_count N (suc h) (spot i) s, places_count (length N) (drop t F) free, length-drop t F)

pub used_boxes : (d : ℕ) (N : List Node) (F : List ℕ) (t h i : ℕ) → Sound N (suc h) (spot i) → EachOnce N F t h i → t ≤ length F → length F ≡ length N
    → t ≡ boxes_in (tree_of d N h i)
used_boxes d N F t h i s each high stack = used_count N F t h i s each high stack ∙ count_boxes d N h (spot i)

-- fewer rows ask for no more places
pub half_less : (a b : ℕ) → a ≤ b → max 1 (a / 2) ≤ max 1 (b / 2)
half_less a b l = max-le (le-max_left 1 (b / 2)) (omega (arith, le-max_right 1 (b / 2)))

-- A tree of at most c rows, c at most 4,096, leaves height + 2 places of a table with 8 more than half of c.
pub room_left : (d c : ℕ) (t : Tree) (used places : ℕ) → Build d t → used ≡ boxes_in t → length (rows_in t) ≤ c → c ≤ 4096 → max 1 (c / 2) + 8 ≤ places
    → used + t.0 + 2 ≤ places
room_left d c t used places b e l m r =
    let low = low_tree d t b in
    let high = low.1 (omega arith) in
    ⊎_elim
    (λ few. let flat : t.0 ≡ 0 = not_high t.0 low.0 few in
    let one-box : boxes_in t ≡ 1 = leaf t flat in
    omega (arith, le-max_left 1 (c / 2)))
    (λ many. let w = few_boxes d t b many in omega (arith, le-max_right 1 (c / 2)))
    (cases_lt (length (rows_in t)) 2)
  where
    not_high : (h : ℕ) → (1 ≤ h → 2 * 3 ^ h ≤ length (rows_in t)) → length (rows_in t) < 2 → h ≡ 0
    not_high zero f q = refl
    not_high (suc h) f q = let p = f (omega arith) in let r : 3 ^ 1 ≤ 3 ^ suc h = pow-le-pow_right (lit< tt) (suc-le-suc zero-le) in absurd (omega arith)

    leaf : (s : Tree) → s.0 ≡ 0 → boxes_in s ≡ 1
    leaf s e = go s.0 s.1.entries e
      where
        go : (h : ℕ) (es : List (Entry h)) → h ≡ 0 → boxes_from h es ≡ 1
        go zero es e = refl
        go (suc h) es e = absurd (omega arith)
