-- What the searches find.
use Rattle.std.proofs.Common.{◌≡◌, ℕ, zero, suc, ◌≤◌, min, true, false, not, ◌&&◌, leb, List, [], ◌∷◌, map, length, take, drop, is_some, None, vec_items, sym, refl, ap, ◌∙◌, subst, arith}
use mathlib.Core.Path.{fun_ext}
use Rattle.std.proofs.lemmas.List.{length-take, take_at}
use Rattle.std.proofs.lemmas.Bool.{and_from, not_from_false, le-leb, both_ways}
use Rattle.space.specs.Boxes.{filled}
use Rattle.space.specs.Plans.{plan_fault}
use Rattle.space.specs.Row.{Row, rows_of}
use Rattle.space.specs.declared.clip.Clip.{Clip}
use Rattle.measures.specs.Counted.{CountIs, counted}
use Rattle.measures.specs.Counts.{count_at, countable, limits, of_plan}
use Rattle.measures.specs.Gehs.{geh_distance}
use Rattle.measures.specs.Hammings.{hamming_distance}
use Rattle.measures.specs.declared.count.Count.{Count}
use Rattle.ranked.specs.declared.find.Find.{Find}
use Rattle.std.proofs.lemmas.List.{with_items_is}
use Rattle.rules.specs.Finds.{ranking, FirstOf}
use Rattle.rules.proofs.Rankings.{ranking_first}
use Rattle.scan.specs.Distances.{far_by}
use Rattle.pick.specs.Answers.{Answers, ask_fault, graded, geh_far, geh_finds, barred_far}
use Rattle.pick.specs.Libraries.{sizes_of, rows_in}
use Rattle.pick.specs.Rows.{proper}
use Rattle.pick.specs.declared.answer.Answer.{Answer}
use Rattle.pick.specs.declared.library.Library.{Library}
use Rattle.pick.proofs.Listings.{distinct_once, proper_counted}

-- the filled slots alone are the first of the finds, as many as there are slots
pub filled_front : (finds slots : List Find) (r : ℕ) → r ≡ min (length finds) (length slots) → take r (filled finds slots) ≡ take (length slots) finds
filled_front finds slots r e =
    let n = length-take (length slots) finds in
    take_at (take (length slots) finds) (drop (length finds) slots) r (omega arith)

-- clips of a plan can be counted, unless there are none
pub uncounted : (plan : List ℕ) (rows : List Row) → is_some (plan_fault plan) ≡ false → proper plan rows ≡ true → length rows ≤ 4096
    → countable plan rows ≡ false → rows ≡ []
uncounted plan [] p h l e = refl
uncounted plan (r ∷ rs) p h l e =
    let n = length (r ∷ rs) in
    let a = and_from (leb 1 n) (leb n 4096) (le-leb 1 n (omega arith)) (le-leb n 4096 l) in
    let b = and_from (not (is_some (plan_fault plan))) (leb 1 n && leb n 4096) (not_from_false (is_some (plan_fault plan)) p) a in
    let c = and_from (limits plan n) (of_plan plan (r ∷ rs)) b (proper_counted plan (r ∷ rs) h) in
    absurd (both_ways (countable plan (r ∷ rs)) e c)

take_nil : {X : Type 0} (k : ℕ) → take {A = X} k [] ≡ []
take_nil zero = refl
take_nil (suc k) = refl

pub geh_none : (plan : List ℕ) (rows : List Row) (k : ℕ) (q : List ℕ) → rows ≡ [] → geh_finds plan rows k q ≡ []
geh_none plan rows k q e =
    ap (λ rs. geh_finds plan rs k q) e ∙ ap (map (graded (length plan) 0)) (take_nil k)

-- the finds by the count of the rows
pub geh_finds_lem : (plan : List ℕ) (rows : List Row) (count : Count) (k : ℕ) (q : List ℕ) → CountIs (length plan) (length rows) (λ i l. count_at i l rows) count
    → map (graded count.dimensions count.total) (take k (ranking (far_by (geh_distance count.dimensions count.total (counted count)) q) rows)) ≡ geh_finds plan rows k q
geh_finds_lem plan rows count k q is =
    let numbers : counted count ≡ (λ i l. count_at i l rows) = fun_ext (λ i. fun_ext (λ l. is.numbers i l)) in
    ap (λ c. map (graded count.dimensions count.total) (take k (ranking (far_by (geh_distance count.dimensions count.total c) q) rows))) numbers
    ∙ ap (λ d. map (graded d count.total) (take k (ranking (far_by (geh_distance d count.total (λ i l. count_at i l rows)) q) rows))) is.dimensions
    ∙ ap (λ n. map (graded (length plan) n) (take k (ranking (far_by (geh_distance (length plan) n (λ i l. count_at i l rows)) q) rows))) is.total

count_is : (plan sizes : List ℕ) (clips cs : List Clip) (count : Count) → sizes ≡ plan → cs ≡ clips
    → CountIs (length sizes) (length (rows_of cs)) (λ i l. count_at i l (rows_of cs)) count
    → CountIs (length plan) (length (rows_of clips)) (λ i l. count_at i l (rows_of clips)) count
count_is plan sizes clips cs count e f is =
    subst (λ (p : List ℕ). CountIs (length p) (length (rows_of clips)) (λ i l. count_at i l (rows_of clips)) count) e
    (subst (λ (ks : List Clip). CountIs (length sizes) (length (rows_of ks)) (λ i l. count_at i l (rows_of ks)) count) f is)

-- the same through what the code lends: the plan, the clips twice, and the finds
pub geh_graded : (plan sizes q : List ℕ) (clips cs ds : List Clip) (count held : Count) (k : ℕ) (finds fs : List Find)
    → sizes ≡ plan → cs ≡ clips → ds ≡ clips → fs ≡ finds → held ≡ count
    → CountIs (length sizes) (length (rows_of cs)) (λ i l. count_at i l (rows_of cs)) count
    → finds ≡ take k (ranking (far_by (geh_distance held.dimensions held.total (counted held)) q) (rows_of ds))
    → map (graded held.dimensions held.total) fs ≡ geh_finds plan (rows_of clips) k q
geh_graded plan sizes q clips cs ds count held k finds fs e f g h i is found =
    ap (map (graded held.dimensions held.total)) (h ∙ found)
    ∙ ap (λ ks. map (graded held.dimensions held.total) (take k (ranking (far_by (geh_distance held.dimensions held.total (counted held)) q) (rows_of ks)))) g
    ∙ ap (λ c. map (graded c.dimensions c.total) (take k (ranking (far_by (geh_distance c.dimensions c.total (counted c)) q) (rows_of clips)))) i
    ∙ geh_finds_lem plan (rows_of clips) count k q (count_is plan sizes clips cs count e f is)

ungraded : (d N : ℕ) (fs : List Find) → map (λ g. g.find) (map (graded d N) fs) ≡ fs
ungraded d N [] = refl
ungraded d N (f ∷ fs) = ap (λ t. f ∷ t) (ungraded d N fs)

-- the three lists are what the rules call the first k
pub answers : (l : Library) (k : ℕ) (q : List ℕ) (a : Answer) → ask_fault l k q ≡ None → vec_items a.query ≡ q → a.clips ≡ length (rows_in l)
    → vec_items a.hamming ≡ take k (ranking (far_by hamming_distance q) (rows_in l))
    → vec_items a.geh ≡ geh_finds (sizes_of l) (rows_in l) k q
    → vec_items a.barred ≡ take k (ranking (barred_far l q) (rows_in l))
    → Answers l k q a
answers l k q a allowed query clips hamming geh barred =
    let rows = rows_in l in
    let once = distinct_once rows l.once in
    let far = geh_far (sizes_of l) rows q in
    let plain : map (λ g. g.find) (vec_items a.geh) ≡ take k (ranking far rows) =
    ap (map (λ g. g.find)) geh ∙ ungraded (length (sizes_of l)) (length rows) (take k (ranking far rows)) in
    record {
      allowed = allowed;
      query = query;
      clips = clips;
      hamming = hamming;
      geh = geh;
      barred = barred;
      first = subst (FirstOf (far_by hamming_distance q) rows k) (sym hamming) (ranking_first (far_by hamming_distance q) rows k once);
      first_graded = subst (FirstOf far rows k) (sym plain) (ranking_first far rows k once);
      first_barred = subst (FirstOf (barred_far l q) rows k) (sym barred) (ranking_first (barred_far l q) rows k once);
    }

pub ruleset finds = (filled_front, with_items_is)

pub ruleset uncountable = (uncounted, geh_none)
