-- The two groups of a division.
use Rattle.std.proofs.Common.{◌≡◌, ℕ, zero, suc, ◌+◌, ◌*◌, ◌/◌, ◌%◌, ◌^◌, ◌<◌, ◌≤◌, Bool, true, false, cond, not, ◌&&◌, eqb, leb, List, [], ◌∷◌, ◌++◌, map, length, sym, refl, ap, ◌∙◌, subst, pow-suc, div-one, arith, lit<}
use lib.Count.{ones, ones_step}
use Rattle.std.specs.List.{AllByRecursion}
use Rattle.std.proofs.lemmas.Bool.{and_parts, leb-true, eqb-true, eqb-false, ne_eqb, cond_both}
use Rattle.space.specs.Boxes.{has}
use Rattle.rules.specs.Choice.{less}
use Rattle.rules.specs.Division.{alike, group, divides, parting, best_below, division}
use Rattle.ranked.specs.Same.{Same, none, keep, then}
use Rattle.rules.specs.LawsChoice.{PartOf, end, takes, leaves, DivisionGroups}
use Rattle.ranked.proofs.Sames.{same_to_front}

-- the one fact about the division that the build rests on: its code divides
abbrev pub Code : ℕ → Type 0
Code c = (divides c ≡ true) × (c < 512)

pub fourteen : Code 14
unfolding ones
fourteen = (refl, lit< tt)

best_code : (d : ℕ) (bs : List (List ℕ)) (n : ℕ) → n ≤ 512 → Code (best_below d bs n)
best_code d bs zero l = fourteen
best_code d bs (suc n) l =
    let c = best_below d bs n in
    let before : Code (best_below d bs n) = best_code d bs n (omega arith) in
    cond_both (divides n && less (parting d bs n) (parting d bs c)) n c Code
    (λ e. ((and_parts (divides n) (less (parting d bs n) (parting d bs c)) e).0, omega arith))
    (λ _. before)

pub division_code : (d : ℕ) (bs : List (List ℕ)) → Code (division d bs)
division_code d bs = best_code d bs 512 (omega arith)

-- ---- the groups
pub group_map : {E F : Type 0} (f : E → F) (b : Bool) (c : ℕ) (es : List E) → group b c (map f es) ≡ map f (group b c es)
group_map f b c [] = refl
group_map f b c (e ∷ es) = ap (λ r. cond (alike b (has c 0)) (f e ∷ r) r) (group_map f b (c / 2) es) ∙ go (alike b (has c 0))
  where
    go : (t : Bool) → cond t (f e ∷ map f (group b (c / 2) es)) (map f (group b (c / 2) es)) ≡ map f (cond t (e ∷ group b (c / 2) es) (group b (c / 2) es))
    go true = refl
    go false = refl

pub all_group : {E : Type 0} (P : E → Type 0) (b : Bool) (c : ℕ) (es : List E) → AllByRecursion P es → AllByRecursion P (group b c es)
all_group P b c [] a = tt
all_group P b c (e ∷ es) a = let more = all_group P b (c / 2) es a.1 in cond_both (alike b (has c 0)) (e ∷ group b (c / 2) es) (group b (c / 2) es) (AllByRecursion P) (λ _. (a.0, more)) (λ _. more)

pub group_same : {E : Type 0} (c : ℕ) (es : List E) → Same (group false c es ++ group true c es) es
group_same c [] = none
group_same c (e ∷ es) = go (group_same (c / 2) es) (has c 0)
  where
    go : Same (group false (c / 2) es ++ group true (c / 2) es) es → (t : Bool)
        → Same (cond (not t) (e ∷ group false (c / 2) es) (group false (c / 2) es) ++ cond t (e ∷ group true (c / 2) es) (group true (c / 2) es)) (e ∷ es)
    go more true = then (same_to_front (group false (c / 2) es) e (group true (c / 2) es)) (keep more)
    go more false = keep more

pub group_part : {E : Type 0} (b : Bool) (c : ℕ) (es : List E) → PartOf (group b c es) es
group_part b c [] = end
group_part b c (e ∷ es) = let more = group_part b (c / 2) es in cond_both (alike b (has c 0)) (e ∷ group b (c / 2) es) (group b (c / 2) es) (λ l. PartOf l (e ∷ es)) (λ _. takes more) (λ _. leaves more)

bit : (c : ℕ) (t : Bool) → has c 0 ≡ t → c % 2 ≡ cond t 1 0
bit c true e = let q = eqb-true (c / 1 % 2) 1 e in omega (arith, div-one c)
bit c false e = let ne = eqb-false (c / 1 % 2) 1 e in omega (arith, div-one c)

-- the lengths of the groups, added
pub group_lengths : {E : Type 0} (c : ℕ) (es : List E) → length (group false c es) + length (group true c es) ≡ length es
group_lengths c [] = refl
group_lengths c (e ∷ es) = go (group_lengths (c / 2) es) (has c 0)
  where
    go : length (group false (c / 2) es) + length (group true (c / 2) es) ≡ length es → (t : Bool)
        → length (cond (not t) (e ∷ group false (c / 2) es) (group false (c / 2) es)) + length (cond t (e ∷ group true (c / 2) es) (group true (c / 2) es)) ≡ suc (length es)
    go more true = omega arith
    go more false = omega arith

-- the second group has an entry for each one of the code
pub group_ones : {E : Type 0} (c : ℕ) (es : List E) → c < 2 ^ length es → length (group true c es) ≡ ones c
unfolding ones
group_ones c [] l = let z : c ≡ 0 = omega arith in rw z
group_ones c (e ∷ es) l =
    let p : 2 ^ suc (length es) ≡ 2 ^ length es * 2 = pow-suc 2 (length es) in
    let ih = group_ones (c / 2) es (omega arith) in
    let b = bit c (has c 0) refl in
    omega (arith, ih, b, ones_step c, go (has c 0))
  where
    go : (t : Bool) → length (cond t (e ∷ group true (c / 2) es) (group true (c / 2) es)) ≡ cond t 1 0 + length (group true (c / 2) es)
    go true = omega arith
    go false = omega arith

pub code_bounds : (c : ℕ) → divides c ≡ true → (c % 2 ≡ 0) × (3 ≤ ones c) × (ones c ≤ 6)
code_bounds c e =
    let h = and_parts (eqb (c % 2) 0) (leb 3 (ones c) && leb (ones c) 6) e in
    let k = and_parts (leb 3 (ones c)) (leb (ones c) 6) h.1 in
    (eqb-true (c % 2) 0 h.0, leb-true 3 (ones c) k.0, leb-true (ones c) 6 k.1)

-- each group of nine has three to six
pub group_few : {E : Type 0} (c : ℕ) (es : List E) → length es ≡ 9 → Code c → (b : Bool) → (3 ≤ length (group b c es)) × (length (group b c es) ≤ 6)
group_few c es l h b =
    let n = group_lengths c es in
    let o = group_ones c es (subst (λ m. c < 2 ^ m) (sym l) h.1) in
    let k = code_bounds c h.0 in
    elim b as (λ b. (3 ≤ length (group b c es)) × (length (group b c es) ≤ 6)) [ true ↦ omega arith | false ↦ omega arith ]

-- the first entry stays in the first group
pub group_first : {E : Type 0} (c : ℕ) (e : E) (es : List E) → divides c ≡ true → group false c (e ∷ es) ≡ e ∷ group false (c / 2) es
group_first c e es h =
    let z = (code_bounds c h).0 in
    let t : has c 0 ≡ false = ne_eqb (c / 1 % 2) 1 (λ q. omega (arith, div-one c)) in
    ap (λ t. cond (not t) (e ∷ group false (c / 2) es) (group false (c / 2) es)) t

pub division_groups : DivisionGroups
division_groups h c es =
    (group_same c es, group_part false c es, group_part true c es, (let n = group_lengths c es in omega arith), group_ones c es, (λ l m h. group_few c es l (h, m)), (λ e y. group_first c e es y))
