-- The ranking of rows: its front is the first k, and the only such list.
use Rattle.std.proofs.Common.{◌≡◌, ℕ, zero, suc, ◌<◌, ◌≤◌, true, List, [], ◌∷◌, ◌++◌, length, get_or, take, Some, None, Option, sym, refl, ap, ◌∙◌, subst, inl, inr, arith}
use Rattle.std.specs.List.{ContainsAt as Has, AllByRecursion}
use Rattle.std.proofs.lemmas.List.{length-take, get_or_default}
use Rattle.std.proofs.ByRecursion.{All-weaker, All-take, All-get_or, All-from_get_or, all-has, has_append_right}
use Rattle.ranked.specs.declared.find.Find.{Find}
use Rattle.ranked.specs.Find.{ahead}
use Rattle.ranked.specs.Same.{Same}
use Rattle.ranked.proofs.Finds.{ahead_order, ahead_tie}
use Rattle.ranked.proofs.Sames.{same_joined, joined_append, all_same, has_same}
use Rattle.ranked.proofs.Ranks.{ranked_holds, ranked_in_rank, ranked_same}
use Rattle.space.specs.Row.{Row}
use Rattle.rules.specs.Finds.{hit, finds_of, ranking, Once, Stands, Comes}
use Rattle.rules.specs.LawsFinds.{RankingFirst, RankingOnly, RankingSame}
use Rattle.rules.proofs.Members.{has_first, Apart, apart_same, apart_from_at, apart_at}
use Rattle.rules.proofs.Rises.{Rises, rises_at, rises_from_at, rises_take, rises_from_rank, OrBehind, front_or_behind, front_only}

-- ---- the order of the rows
pub finds_same : (dist : Row → Option ℕ) {rows others : List Row} → Same rows others → Same (finds_of dist rows) (finds_of dist others)
finds_same dist s = same_joined (λ r. hit (dist r) r.number) s

pub finds_append : (dist : Row → Option ℕ) (rows others : List Row) → finds_of dist (rows ++ others) ≡ finds_of dist rows ++ finds_of dist others
finds_append dist rows others = joined_append (λ r. hit (dist r) r.number) rows others

pub ranking_same : RankingSame
ranking_same dist rows others s = ranked_same ahead ahead_order ahead_tie (finds_same dist s)

-- ---- numbers that stand once
abbrev pub number : Row → ℕ
number r = r.number

abbrev clip : Find → ℕ
clip f = f.clip

pub once_same : (rows others : List Row) → Same rows others → Once rows → Once others
once_same rows others s once = apart_at number others (apart_same number s (apart_from_at number rows once))

-- ---- rows and finds by their parts
-- a row and a find to read past the end with; nothing turns on what they are
abbrev pub no_row : Row
no_row = record { number = 0; letters = [] }

abbrev pub no_find : Find
no_find = record { distance = 0; clip = 0 }

find_is : (f : Find) (n : ℕ) → n ≡ f.clip → ◌≡◌ {A = Find} (record { distance = f.distance; clip = n }) f
find_is f n e = ap (λ m. let g : Find = record { distance = f.distance; clip = m } in g) e

module _ (dist : Row → Option ℕ) where
  apart_from : (n : ℕ) (rows : List Row) → AllByRecursion (λ r. n ≡ r.number → ⊥) rows → AllByRecursion (λ f. n ≡ f.clip → ⊥) (finds_of dist rows)
  apart_from n [] a = tt
  apart_from n (r ∷ rs) a = go (apart_from n rs a.1) (dist r)
    where
      go : AllByRecursion (λ f. n ≡ f.clip → ⊥) (finds_of dist rs) → (o : Option ℕ) → AllByRecursion (λ f. n ≡ f.clip → ⊥) (hit o r.number ++ finds_of dist rs)
      go more None = more
      go more (Some x) = (a.0, more)

  finds_apart : (rows : List Row) → Apart number rows → Apart clip (finds_of dist rows)
  finds_apart [] a = tt
  finds_apart (r ∷ rs) a = go (finds_apart rs a.1) (dist r)
    where
      go : Apart clip (finds_of dist rs) → (o : Option ℕ) → Apart clip (hit o r.number ++ finds_of dist rs)
      go more None = more
      go more (Some x) = (apart_from r.number rs a.0, more)

  pub ranking_rises : (rows : List Row) → Once rows → Rises ahead (ranking dist rows)
  ranking_rises rows once =
      rises_from_rank ahead clip (λ x y p q. ap clip (ahead_tie x y p q)) (ranking dist rows) (ranked_in_rank ahead ahead_order (finds_of dist rows))
      (apart_same clip (ranked_holds ahead (finds_of dist rows)) (finds_apart rows (apart_from_at number rows once)))

  -- ---- each find comes from a row
  finds_come : (rows : List Row) → AllByRecursion (Comes dist rows) (finds_of dist rows)
  finds_come [] = tt
  finds_come (r ∷ rs) =
      go (All-weaker (Comes dist rs) (Comes dist (r ∷ rs)) (λ f c. (suc c.0, omega (arith, c.1), c.2)) (finds_of dist rs) (finds_come rs)) (dist r) refl
    where
      go : AllByRecursion (Comes dist (r ∷ rs)) (finds_of dist rs) → (o : Option ℕ) → dist r ≡ o → AllByRecursion (Comes dist (r ∷ rs)) (hit o r.number ++ finds_of dist rs)
      go more None e = more
      go more (Some x) e = ((0, omega arith, (λ d. (refl, e))), more)

  pub ranking_comes : (rows : List Row) → AllByRecursion (Comes dist rows) (ranking dist rows)
  ranking_comes rows = all_same (Comes dist rows) (ranked_holds ahead (finds_of dist rows)) (finds_come rows)

  -- ---- each row with a distance is a find
  finds_has : (rows : List Row) (j : ℕ) (r : Row) (x : ℕ) → j < length rows → dist (get_or rows j r) ≡ Some x
      → Has (finds_of dist rows) (record { distance = x; clip = (get_or rows j r).number })
  finds_has [] j r x l e = absurd (let z : suc j ≤ 0 = l in omega arith)
  finds_has (s ∷ rs) zero r x l e =
      let new : Find = record { distance = x; clip = s.number } in
      subst (λ o. Has (hit o s.number ++ finds_of dist rs) new) (sym e) (has_first new (finds_of dist rs))
  finds_has (s ∷ rs) (suc j) r x l e =
      has_append_right (hit (dist s) s.number) (finds_of dist rs) (record { distance = x; clip = (get_or rs j r).number }) (finds_has rs j r x (omega arith) e)

  pub ranking_has : (rows : List Row) (f : Find) → Comes dist rows f → Has (ranking dist rows) f
  ranking_has rows f c =
      let h = finds_has rows c.0 no_row f.distance c.1 (c.2 no_row).1 in
      let is = find_is f (get_or rows c.0 no_row).number (c.2 no_row).0 in
      has_same f (ranked_holds ahead (finds_of dist rows)) (subst (Has (finds_of dist rows)) is h)

-- ---- a find that stands among others
pub has_stands : (f : Find) (finds : List Find) → Has finds f → Stands f finds
has_stands f finds h = (h.0, h.1, h.2 f)

pub stands_has : (f : Find) (finds : List Find) → Stands f finds → Has finds f
stands_has f finds s = (s.0, s.1, (λ d. get_or_default finds s.0 d f s.1 ∙ s.2))

-- a row's find comes from it
row_comes : (dist : Row → Option ℕ) (rows : List Row) (j : ℕ) (r : Row) (x : ℕ) → j < length rows → dist (get_or rows j r) ≡ Some x
    → Comes dist rows (record { distance = x; clip = (get_or rows j r).number })
row_comes dist rows j r x l e =
    (j, l, (λ s. let same = get_or_default rows j s r l in (ap number same, ap dist same ∙ e)))

pub ranking_first : RankingFirst
ranking_first dist rows k once =
    let all = ranking dist rows in
    let up = ranking_rises dist rows once in
    record {
      most = (let e = length-take k all in omega arith);
      known = λ i f l. All-get_or (Comes dist rows) (take k all) i f l (All-take (Comes dist rows) k all (ranking_comes dist rows));
      rises = λ i j f h l. rises_at ahead (take k all) i j f (rises_take ahead k all up) h l;
      rest = λ j r x l e.
          let new : Find = record { distance = x; clip = (get_or rows j r).number } in
          elim (front_or_behind ahead k all new up (ranking_has dist rows new (row_comes dist rows j r x l e))) [
            | inl a ↦ inl (has_stands new (take k all) a)
            | inr b ↦ inr (b.0, (λ i f m. All-get_or (λ y. ahead y new ≡ true) (take k all) i f m b.1))
          ];
    }

pub ranking_only : RankingOnly
ranking_only dist rows k once finds first =
    front_only ahead ahead_order k finds (ranking dist rows) (rises_from_at ahead no_find finds first.rises) (ranking_rises dist rows once)
    (All-from_get_or (Has (ranking dist rows)) finds no_find (λ i l. ranking_has dist rows (get_or finds i no_find) (first.known i no_find l))) ors first.most
  where
    ors : (f : Find) → Has (ranking dist rows) f → OrBehind ahead k finds f
    ors f m =
        let c : Comes dist rows f = all-has (Comes dist rows) (ranking dist rows) f (ranking_comes dist rows) m in
        let n = (get_or rows c.0 no_row).number in
        let new : Find = record { distance = f.distance; clip = n } in
        subst (OrBehind ahead k finds) (find_is f n (c.2 no_row).0)
        (elim (first.rest c.0 no_row f.distance c.1 (c.2 no_row).1) [
          | inl s ↦ inl (stands_has new finds s)
          | inr b ↦ inr (b.0, All-from_get_or (λ y. ahead y new ≡ true) finds no_find (λ i l. b.1 i no_find l))
        ])
