-- Where a number is; the entries of a node but one, or but those of a number.
use Rattle.std.proofs.Common.{◌≡◌, ℕ, zero, suc, ◌+◌, ◌-◌, ◌*◌, ◌/◌, ◌%◌, ◌^◌, ◌≤◌, Bool, true, false, cond, not, ltb, Some, None, ◌||◌, eqb, List, [], ◌∷◌, ◌++◌, map, length, take, drop, sym, refl, ap, ◌∙◌, pow-suc, div-one, arith}
use Rattle.std.specs.List.{AllByRecursion, list_any, position, position_or_len}
use Rattle.std.specs.Option.{unwrap_or}
use Rattle.std.proofs.lemmas.Bool.{ne_eqb, ltb-false}
use Rattle.space.specs.Boxes.{has}
use Rattle.rules.specs.Division.{alike, group}
use Rattle.space.specs.Row.{Row}
use Rattle.rules.specs.Tree.{Entry, rows_below}
use Rattle.rules.specs.Rows.{lists, without}
use Rattle.rules.specs.Withdraw.{holder}
use Rattle.tree.specs.declared.node.NodeEntry.{NodeEntry}
use Rattle.tree.specs.declared.node.Node.{Node}
use Rattle.tree.specs.Nodes.{node, inside, clip_in, place_in, entry_of}
use Rattle.space.specs.Row.{stored_row}
use Rattle.tree.specs.Leaving.{rows_of, listed_in, first_index, kept}

pub rows_first : (h : ℕ) (e : Entry h) (es : List (Entry h)) → rows_below h (e ∷ es) ≡ rows_of h e ++ rows_below h es
rows_first zero e es = refl
rows_first (suc h) e es = refl

or_assoc : (b x y : Bool) → (b || (x || y)) ≡ ((b || x) || y)
or_assoc true x y = refl
or_assoc false x y = refl

or_none : (b : Bool) → (b || false) ≡ b
or_none true = refl
or_none false = refl

pub lists_append : (n : ℕ) (xs ys : List Row) → lists n (xs ++ ys) ≡ (lists n xs || lists n ys)
lists_append n [] ys = refl
lists_append n (r ∷ xs) ys = ap (λ b. eqb r.number n || b) (lists_append n xs ys) ∙ or_assoc (eqb r.number n) (lists n xs) (lists n ys)

down : (g : ℕ) → g ≡ suc g - 1
down g = omega arith

module _ (d : ℕ) (N : List Node) (n : ℕ) where
  pub listed_leaf : (h : ℕ) (e : NodeEntry) → h ≡ 0 → listed_in d N h n e ≡ eqb (clip_in e).number n
  unfolding listed_in entry_of
  listed_leaf zero e z = or_none (eqb (clip_in e).number n)
  listed_leaf (suc h) e z = absurd (omega arith)

  lists_cons : (h : ℕ) (e : NodeEntry) (es : List NodeEntry) → lists n (rows_below h (map (entry_of d N h) (e ∷ es))) ≡ (listed_in d N h n e || lists n (rows_below h (map (entry_of d N h) es)))
  unfolding listed_in
  lists_cons h e es = ap (lists n) (rows_first h (entry_of d N h e) (map (entry_of d N h) es)) ∙ lists_append n (rows_of h (entry_of d N h e)) (rows_below h (map (entry_of d N h) es))

  lists_nil : (h : ℕ) → lists n (rows_below h []) ≡ false
  lists_nil zero = refl
  lists_nil (suc h) = refl

  pub lists_any : (h : ℕ) (es : List NodeEntry) → list_any (listed_in d N h n) es ≡ lists n (rows_below h (map (entry_of d N h) es))
  lists_any h [] = sym (lists_nil h)
  lists_any h (e ∷ es) = ap (λ b. listed_in d N h n e || b) (lists_any h es) ∙ sym (lists_cons h e es)

  pub listed_up : (h : ℕ) (e : NodeEntry) → (h ≡ 0 → ⊥) → listed_in d N h n e ≡ lists n (rows_below (h - 1) (map (entry_of d N (h - 1)) (inside (node N (place_in e)))))
  unfolding listed_in entry_of
  listed_up zero e ne = absurd (ne refl)
  listed_up (suc h) e ne = ap (λ g. lists n (rows_below g (map (entry_of d N g) (inside (node N (place_in e)))))) (down h)

  pub holder_first : (h : ℕ) (es : List NodeEntry) → holder h n (map (entry_of d N (suc h)) es) ≡ first_index (listed_in d N (suc h) n) es
  unfolding listed_in
  holder_first h [] = refl
  holder_first h (e ∷ es) = ap (λ x. cond (listed_in d N (suc h) n e) 0 (suc x)) (holder_first h es)

-- ---- the first that passes a test
first_position : (p : NodeEntry → Bool) (es : List NodeEntry) → position_or_len p es ≡ first_index p es
first_position p [] = refl
first_position p (e ∷ es) = go (p e) (first_position p es)
  where
    go : {n m : ℕ} (b : Bool) → n ≡ m → cond (not b) (1 + n) 0 ≡ cond b 0 (suc m)
    go true q = refl
    go false q = omega arith

first_within : (p : NodeEntry → Bool) (es : List NodeEntry) → first_index p es ≤ length es
first_within p [] = omega arith
first_within p (e ∷ es) = go (p e) (first_within p es)
  where
    go : {n m : ℕ} (b : Bool) → n ≤ m → cond b 0 (suc n) ≤ suc m
    go true q = omega arith
    go false q = omega arith

-- the place where `position` finds one, and the length where it does not
pub first_found : (p : NodeEntry → Bool) (es : List NodeEntry) → unwrap_or (position p es) (length es) ≡ first_index p es
first_found p es =
    ap (λ n. unwrap_or (cond (ltb n (length es)) (Some n) None) (length es)) (first_position p es) ∙ go (first_index p es) (length es) (ltb (first_index p es) (length es)) refl (first_within p es)
  where
    go : (n m : ℕ) (b : Bool) → ltb n m ≡ b → n ≤ m → unwrap_or (cond b (Some n) None) m ≡ n
    go n m true e l = refl
    go n m false e l = let k = ltb-false n m e in omega arith

-- ---- the entries of a leaf but those of a number
cond_all : {E : Type 0} (P : E → Type 0) (t : Bool) (e : E) (es : List E) → P e → AllByRecursion P es → AllByRecursion P (cond t es (e ∷ es))
cond_all P true e es p q = q
cond_all P false e es p q = (p, q)

pub all_kept : (P : NodeEntry → Type 0) (n : ℕ) (es : List NodeEntry) → AllByRecursion P es → AllByRecursion P (kept n es)
all_kept P n [] a = tt
all_kept P n (e ∷ es) a = cond_all P (eqb (clip_in e).number n) e (kept n es) a.0 (all_kept P n es a.1)

cond_long : {E : Type 0} (t : Bool) (e : E) (es : List E) → length (cond t es (e ∷ es)) ≤ suc (length es)
cond_long true e es = omega arith
cond_long false e es = omega arith

pub length_kept : (n : ℕ) (es : List NodeEntry) → length (kept n es) ≤ length es
length_kept n [] = omega arith
length_kept n (e ∷ es) = omega (arith, cond_long (eqb (clip_in e).number n) e (kept n es), length_kept n es)

cond_map2 : {A B : Type 0} (f : A → B) (t : Bool) (x y : A) → f (cond t x y) ≡ cond t (f x) (f y)
cond_map2 f true x y = refl
cond_map2 f false x y = refl

pub kept_without : (d : ℕ) (N : List Node) (n : ℕ) (es : List NodeEntry) → map (entry_of d N 0) (kept n es) ≡ without n (map (entry_of d N 0) es)
unfolding entry_of
kept_without d N n [] = refl
kept_without d N n (e ∷ es) =
    cond_map2 (map (entry_of d N 0)) (eqb (clip_in e).number n) (kept n es) (e ∷ kept n es)
    ∙ ap (λ (x : List Row). cond (eqb (clip_in e).number n) x (stored_row d (clip_in e) ∷ x)) (kept_without d N n es)

-- ---- the entries but one
group_none : {E : Type 0} (es : List E) → group false 0 es ≡ es
group_none [] = refl
group_none (e ∷ es) = ap (λ x. e ∷ x) (group_none es)

pub group_out : {E : Type 0} (p : ℕ) (es : List E) → group false (2 ^ p) es ≡ take p es ++ drop (suc p) es
group_out zero [] = refl
group_out zero (e ∷ es) = group_none es
group_out (suc p) [] = refl
group_out (suc p) (e ∷ es) =
    let w : 2 ^ suc p ≡ 2 ^ p * 2 = pow-suc 2 p in
    let q : 2 ^ suc p / 2 ≡ 2 ^ p = omega arith in
    let b : has (2 ^ suc p) 0 ≡ false = ne_eqb (2 ^ suc p / 1 % 2) 1 (λ x. omega (arith, div-one (2 ^ suc p))) in
    ap (λ t. cond (alike false t) (e ∷ group false (2 ^ suc p / 2) es) (group false (2 ^ suc p / 2) es)) b
    ∙ ap (λ m. e ∷ group false m es) q ∙ ap (λ x. e ∷ x) (group_out p es)
