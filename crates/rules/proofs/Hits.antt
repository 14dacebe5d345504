-- The hits within a radius.
use Rattle.std.proofs.Common.{◌≡◌, ℕ, ◌≤◌, Bool, true, false, cond, leb, List, [], ◌∷◌, length, get_or, Some, None, Option, refl, ap, ◌∙◌, subst, arith}
use Rattle.std.proofs.lemmas.List.{take_all, length-append}
use Rattle.std.proofs.ByRecursion.{all-has}
use Rattle.std.proofs.lemmas.List.Sums.{sum_by-cons, count_by-le-length}
use Rattle.std.proofs.lemmas.Bool.{leb-true, le-leb}
use Rattle.ranked.specs.Find.{ahead}
use Rattle.ranked.proofs.Ranks.{length_ranked}
use Rattle.space.specs.Row.{Row}
use Rattle.measures.specs.Layers.{up_to}
use Rattle.rules.specs.Finds.{hit, finds_of, ranking, within, hits_of, near, hit_count, Stands, Comes, FirstOf}
use Rattle.rules.specs.LawsFinds.{HitsAll, HitsWithin, HitsCounted}
use Rattle.rules.proofs.Rankings.{no_row, ranking_first, ranking_comes, ranking_has, has_stands, stands_has}

-- ---- how many
module _ (dist : Row → Option ℕ) (radius : ℕ) where
  one_hit : (o : Option ℕ) (n : ℕ) → length (hit (up_to radius o) n) ≡ cond (near radius o) 1 0
  one_hit None n = refl
  one_hit (Some x) n = elim (leb x radius) as (λ b. length (hit (cond b (Some x) None) n) ≡ cond b 1 0) [ true ↦ refl | false ↦ refl ]

  finds_counted : (rows : List Row) → length (finds_of (within dist radius) rows) ≡ hit_count dist radius rows
  finds_counted [] = refl
  finds_counted (r ∷ rs) =
      let more = finds_counted rs in
      let one = one_hit (dist r) r.number in
      let sum = sum_by-cons (λ s. cond (near radius (dist s)) 1 0) r rs in
      let both = length-append (hit (within dist radius r) r.number) (finds_of (within dist radius) rs) in
      omega arith

pub hits_counted : HitsCounted
hits_counted dist radius rows = length_ranked ahead (finds_of (within dist radius) rows) ∙ finds_counted dist radius rows

pub hits_all : HitsAll
hits_all dist radius rows once =
    let hits = hits_of dist radius rows in
    let short : length hits ≤ length rows =
    (let n = hits_counted dist radius rows in let m = count_by-le-length (λ r. near radius (dist r)) rows in omega arith) in
    subst (FirstOf (within dist radius) rows (length rows)) (take_all (length rows) hits short) (ranking_first (within dist radius) rows (length rows) once)

-- ---- which
up_to_some : (radius : ℕ) (o : Option ℕ) (x : ℕ) → up_to radius o ≡ Some x → (o ≡ Some x) × (x ≤ radius)
up_to_some radius None x e = absurd (let z : ◌≡◌ {A = ℕ} 0 1 = cc in omega arith)
up_to_some radius (Some y) x e = go (leb y radius) refl e
  where
    go : (t : Bool) → leb y radius ≡ t → cond t (Some y) None ≡ Some x → (Some y ≡ Some x) × (x ≤ radius)
    go true p q = (q, (let same : y ≡ x = cc in omega (arith, leb-true y radius p)))
    go false p q = absurd (let z : ◌≡◌ {A = ℕ} 0 1 = cc in omega arith)

some_up_to : (radius : ℕ) (o : Option ℕ) (x : ℕ) → o ≡ Some x → x ≤ radius → up_to radius o ≡ Some x
some_up_to radius o x e h = ap (up_to radius) e ∙ ap (λ b. cond b (Some x) None) (le-leb x radius h)

pub hits_within : HitsWithin
hits_within dist radius rows f = (only, all)
  where
    far : Row → Option ℕ
    far = within dist radius

    only : Stands f (hits_of dist radius rows) → Comes dist rows f × (f.distance ≤ radius)
    only s =
        let c : Comes far rows f = all-has (Comes far rows) (ranking far rows) f (ranking_comes far rows) (stands_has f (ranking far rows) s) in
        let parts : (r : Row) → (dist (get_or rows c.0 r) ≡ Some f.distance) × (f.distance ≤ radius) =
        λ r. up_to_some radius (dist (get_or rows c.0 r)) f.distance (c.2 r).1 in
        ((c.0, c.1, (λ r. ((c.2 r).0, (parts r).0))), (parts no_row).1)

    all : Comes dist rows f → f.distance ≤ radius → Stands f (hits_of dist radius rows)
    all c h =
        has_stands f (ranking far rows) (ranking_has far rows f
        (c.0, c.1, (λ r. ((c.2 r).0, some_up_to radius (dist (get_or rows c.0 r)) f.distance (c.2 r).1 h))))
