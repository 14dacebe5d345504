-- Rows of distinct numbers, each a clip of the plan.
use Rattle.std.proofs.Common.{◌≡◌, ℕ, zero, suc, ◌<◌, ◌≤◌, Bool, true, false, cond, not, ◌&&◌, ◌||◌, eqb, List, [], ◌∷◌, ◌++◌, length, get_or, is_some, Some, None, vec_items, sym, refl, ap, subst, arith}
use Rattle.std.proofs.lemmas.Bool.{and_parts, and_from, or_parts, or_from, not-true, not_from_false, eqb-false, ne_eqb, both_ways}
use Rattle.space.specs.Plans.{clip_fault, vector_fault}
use Rattle.space.specs.Row.{Row, row_of, rows_of}
use Rattle.space.specs.declared.clip.Clip.{Clip}
use Rattle.space.specs.declared.plan.ClipFault.TheVariants as clip
use Rattle.std.proofs.lemmas.List.{length_push, map_push}
use Rattle.std.specs.List.{list_any}
use Rattle.rules.specs.Finds.{Once}
use Rattle.measures.specs.Counts.{of_plan}
use Rattle.pick.specs.Rows.{proper, listed, distinct}

-- ---- one row more
proper_push : (plan : List ℕ) (rs : List Row) (r : Row) → proper plan rs ≡ true → clip_fault plan r.number r.letters ≡ None → proper plan (rs ++ (r ∷ [])) ≡ true
proper_push plan [] r h e = ap (λ f. not (is_some f) && true) e
proper_push plan (x ∷ rs) r h e =
    let t = not (is_some (clip_fault plan x.number x.letters)) in
    let p = and_parts t (proper plan rs) h in
    and_from t (proper plan (rs ++ (r ∷ []))) p.0 (proper_push plan rs r p.1 e)

listed_push : (n : ℕ) (rs : List Row) (r : Row) → listed n rs ≡ false → eqb r.number n ≡ false → listed n (rs ++ (r ∷ [])) ≡ false
listed_push n [] r h e = ap (λ t. t || false) e
listed_push n (x ∷ rs) r h e =
    let p = or_parts (eqb x.number n) (listed n rs) h in
    or_from (eqb x.number n) (listed n (rs ++ (r ∷ []))) p.0 (listed_push n rs r p.1 e)

turned : (a b : ℕ) → eqb a b ≡ false → eqb b a ≡ false
turned a b h = ne_eqb b a (λ e. eqb-false a b h (sym e))

distinct_push : (rs : List Row) (r : Row) → distinct rs ≡ true → listed r.number rs ≡ false → distinct (rs ++ (r ∷ [])) ≡ true
distinct_push [] r h e = refl
distinct_push (x ∷ rs) r h e =
    let p = and_parts (not (listed x.number rs)) (distinct rs) h in
    let q = or_parts (eqb x.number r.number) (listed r.number rs) e in
    let l = listed_push x.number rs r (not-true (listed x.number rs) p.0) (turned x.number r.number q.0) in
    and_from (not (listed x.number (rs ++ (r ∷ [])))) (distinct (rs ++ (r ∷ []))) (not_from_false (listed x.number (rs ++ (r ∷ []))) l) (distinct_push rs r p.1 q.1)

-- ---- no number twice
listed_at : (n : ℕ) (rs : List Row) (j : ℕ) (r : Row) → listed n rs ≡ false → j < length rs → (get_or rs j r).number ≡ n → ⊥
listed_at n [] j r h l e = omega arith
listed_at n (x ∷ rs) zero r h l e = eqb-false x.number n (or_parts (eqb x.number n) (listed n rs) h).0 e
listed_at n (x ∷ rs) (suc j) r h l e = listed_at n rs j r (or_parts (eqb x.number n) (listed n rs) h).1 (omega arith) e

pub distinct_once : (rs : List Row) → distinct rs ≡ true → Once rs
distinct_once [] h i j r k l e = omega arith
distinct_once (x ∷ rs) h i zero r k l e = omega arith
distinct_once (x ∷ rs) h zero (suc j) r k l e =
    let p = and_parts (not (listed x.number rs)) (distinct rs) h in
    listed_at x.number rs j r (not-true (listed x.number rs) p.0) (omega arith) (sym e)
distinct_once (x ∷ rs) h (suc i) (suc j) r k l e =
    let p = and_parts (not (listed x.number rs)) (distinct rs) h in
    distinct_once rs p.1 i j r (omega arith) (omega arith) e

-- ---- rows of a plan can be counted
vector_fine : (plan : List ℕ) (n : ℕ) (v : List ℕ) → is_some (clip_fault plan n v) ≡ false → is_some (vector_fault plan v) ≡ false
vector_fine plan n v h =
    elim (eqb n 0) as (λ t. is_some (cond t (Some clip.Number) (vector_fault plan v)) ≡ false → is_some (vector_fault plan v) ≡ false)
    [ true ↦ (λ z. absurd (both_ways true z refl)) | false ↦ (λ z. z) ]
    h

pub proper_counted : (plan : List ℕ) (rs : List Row) → proper plan rs ≡ true → of_plan plan rs ≡ true
proper_counted plan [] h = refl
proper_counted plan (r ∷ rs) h =
    let f = clip_fault plan r.number r.letters in
    let p = and_parts (not (is_some f)) (proper plan rs) h in
    let v = vector_fine plan r.number r.letters (not-true (is_some f) p.0) in
    and_from (not (is_some (vector_fault plan r.letters))) (of_plan plan rs) (not_from_false (is_some (vector_fault plan r.letters)) v) (proper_counted plan rs p.1)

-- ---- all that a library holds, kept by one row more
pub record Held (plan : List ℕ) (rs : List Row) : Type 0 where
  pub fits_plan : proper plan rs ≡ true
  pub once : distinct rs ≡ true
  pub few : length rs ≤ 4096

pub held_push : (plan : List ℕ) (rs : List Row) (r : Row) → Held plan rs → clip_fault plan r.number r.letters ≡ None
    → listed r.number rs ≡ false → length rs < 4096 → Held plan (rs ++ (r ∷ []))
held_push plan rs r h e n l =
    let k = length_push rs r in
    record { fits_plan = proper_push plan rs r h.fits_plan e; once = distinct_push rs r h.once n; few = omega arith }

-- the numbers of clips are looked through as those of their rows are
pub listed_any : (n : ℕ) (clips : List Clip) → listed n (rows_of clips) ≡ list_any (λ (c : Clip). eqb c.number n) clips
listed_any n [] = refl
listed_any n (c ∷ cs) = ap (λ t. eqb c.number n || t) (listed_any n cs)

-- ---- what a push leaves: one clip more, or the clips that were there
pub push_held : (plan : List ℕ) (cs new : List Clip) (x : Clip) (b : Bool) → new ≡ cond b (cs ++ (x ∷ [])) cs → Held plan (rows_of cs)
    → clip_fault plan x.number (vec_items x.letters) ≡ None → listed x.number (rows_of cs) ≡ false → length (rows_of cs) < 4096 → Held plan (rows_of new)
push_held plan cs new x b e h f n l =
    subst (λ (ks : List Clip). Held plan (rows_of ks)) (sym e)
    (elim b as (λ t. Held plan (rows_of (cond t (cs ++ (x ∷ [])) cs)))
    [ true ↦ subst (Held plan) (sym (map_push row_of cs x)) (held_push plan (rows_of cs) (row_of x) h f n l) | false ↦ h ])
