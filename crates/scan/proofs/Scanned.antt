-- The loop over the clips.
use Rattle.std.proofs.Common.{◌≡◌, ℕ, ◌+◌, ◌<◌, ◌≤◌, min, List, [], ◌∷◌, ◌++◌, length, get_or, take, drop, Some, None, Option, sym, refl, ap, ◌∙◌, subst, ap₂, ⊎_elim, arith, length-append}
use Rattle.std.proofs.lemmas.List.{drop_all, drop-drop, take-append-drop, append-nil}
use Rattle.std.proofs.lemmas.Bool.{cases_lt}
use Rattle.ranked.specs.declared.find.Find.{Find}
use Rattle.ranked.specs.Find.{ahead}
use Rattle.ranked.specs.Rank.{place, ranked, keep_first}
use Rattle.ranked.proofs.Finds.{ahead_order, ahead_tie}
use Rattle.ranked.proofs.Ranks.{length_ranked, keep_first_append, keep_first_is}
use Rattle.rules.specs.Finds.{hit, finds_of, ranking, within, FirstOf}
use Rattle.rules.proofs.Hits.{hits_counted}
use Rattle.rules.proofs.Rankings.{ranking_first}
use Rattle.scan.specs.Distances.{Nearest, Hits}
use Rattle.space.specs.Boxes.{filled}
use Rattle.space.specs.Row.{Row, row_of, rows_of}
use Rattle.space.specs.declared.clip.Clip.{Clip}
use Rattle.space.proofs.Steps.{one_more, one_all, take_min}

hit_few : (o : Option ℕ) (n : ℕ) → length (hit o n) ≤ 1
hit_few None n = omega arith
hit_few (Some x) n = omega arith

-- After k clips there are n finds, and the first of them stand in the slots: these and those to come give the answer.
pub record Scanned (dist : Row → Option ℕ) (clips : List Clip) (slots s : List Find) (n k : ℕ) : Type 0 where
  pub few : n ≤ k
  pub count : n + length (finds_of dist (rows_of (drop k clips))) ≡ length (finds_of dist (rows_of clips))
  pub front : keep_first ahead (length slots) (take n s) (finds_of dist (rows_of (drop k clips))) ≡ keep_first ahead (length slots) [] (finds_of dist (rows_of clips))
  pub back : drop n s ≡ drop n slots

module _ (dist : Row → Option ℕ) (clips : List Clip) (slots : List Find) where
  pub scanned_none : Scanned dist clips slots slots 0 0
  scanned_none = record { few = omega arith; count = omega arith; front = refl; back = refl }

  pub scanned_more : (s : List Find) (n k : ℕ) → Scanned dist clips slots s n k → length s ≡ length slots → (c : Clip) → k < length clips → c ≡ get_or clips k c
      → (o : Option ℕ) → o ≡ dist (row_of c) → (m : ℕ) (t : List Find) → m ≡ n + length (hit o c.number)
      → take m t ≡ keep_first ahead (length s) (take n s) (hit o c.number) → drop m t ≡ drop m s
      → Scanned dist clips slots t m (k + 1)
  scanned_more s n k so_far long c h is o tells m t count front back =
      let here = hit o c.number in
      let later = finds_of dist (rows_of (drop (k + 1) clips)) in
      let next : finds_of dist (rows_of (drop k clips)) ≡ here ++ later =
      one_more (λ cs. finds_of dist (rows_of cs)) clips c k h ∙ ap (λ x. hit (dist (row_of x)) x.number ++ later) (sym is)
      ∙ ap (λ x. hit x c.number ++ later) (sym tells) in
      let one = hit_few o c.number in
      let both : length (finds_of dist (rows_of (drop k clips))) ≡ length here + length later = ap length next ∙ length-append here later in
      let kept : take m t ≡ keep_first ahead (length slots) (take n s) here = front ∙ ap (λ cap. keep_first ahead cap (take n s) here) long in
      record {
        few = let f = so_far.few in omega arith;
        count = let f = so_far.count in omega arith;
        front = ap (λ l. keep_first ahead (length slots) l later) kept ∙ sym (keep_first_append ahead (length slots) (take n s) here later)
            ∙ ap (keep_first ahead (length slots) (take n s)) (sym next) ∙ so_far.front;
        back = back ∙ ap (λ j. drop j s) count ∙ sym (drop-drop (length here) n s) ∙ ap (drop (length here)) so_far.back
            ∙ drop-drop (length here) n slots ∙ ap (λ j. drop j slots) (sym count);
      }

  -- after all clips
  module _ (s : List Find) (n k : ℕ) (so_far : Scanned dist clips slots s n k) (over : length clips ≤ k) where
    pub scanned_count : n ≡ length (ranking dist (rows_of clips))
    scanned_count =
        let none = one_all (λ cs. length (finds_of dist (rows_of cs))) clips k over in
        let f = so_far.count in
        let l = length_ranked ahead (finds_of dist (rows_of clips)) in
        omega arith

    pub scanned_front : take n s ≡ take (length slots) (ranking dist (rows_of clips))
    scanned_front =
        let finds = finds_of dist (rows_of clips) in
        sym (one_all (λ cs. keep_first ahead (length slots) (take n s) (finds_of dist (rows_of cs))) clips k over) ∙ so_far.front
        ∙ keep_first_is ahead ahead_order ahead_tie (length slots) [] finds tt (omega arith) ∙ ap (λ l. take (length slots) (ranked ahead l)) (append-nil finds)

    pub scanned_slots : s ≡ filled (ranking dist (rows_of clips)) slots
    scanned_slots =
        sym (take-append-drop n s) ∙ ap₂ (λ x y. x ++ y) scanned_front (so_far.back ∙ ap (λ j. drop j slots) scanned_count)

-- one find goes in: the first found + 1 are those of the list cut off
pub put_front : (s t : List Find) (n r : ℕ) (f : Find) → length t ≡ length s → r ≡ min (n + 1) (length s)
    → take r t ≡ take (length s) (place ahead f (take n s)) → take (n + 1) t ≡ keep_first ahead (length s) (take n s) (f ∷ [])
put_front s t n r f e c h = sym (take_min t (n + 1) (length s) e) ∙ ap (λ j. take j t) (sym c) ∙ h

pub put_back : (s t : List Find) (n r : ℕ) → length t ≡ length s → r ≡ min (n + 1) (length s) → drop r t ≡ drop r s → drop (n + 1) t ≡ drop (n + 1) s
put_back s t n r e c h =
    ⊎_elim (λ (l : n + 1 < length s). let z : n + 1 ≡ r = omega arith in ap (λ j. drop j t) z ∙ h ∙ ap (λ j. drop j s) (sym z))
    (λ (l : length s ≤ n + 1). drop_all (n + 1) t (omega arith) ∙ sym (drop_all (n + 1) s (omega arith))) (cases_lt (n + 1) (length s))

-- an answer about what a call was lent, told of what it was lent from
pub told : {X Y : Type 0} (f : X → Y) (o : Y) (w v : X) → o ≡ f w → w ≡ v → o ≡ f v
told f o w v e h = e ∙ ap f h

-- what the searches tell after all clips
pub nearest_done : (dist : Row → Option ℕ) (clips : List Clip) (slots s : List Find) (n k : ℕ) → Scanned dist clips slots s n k → length clips ≤ k
    → length s ≡ length slots → (r : ℕ) → r ≡ min n (length slots) → Nearest dist (rows_of clips) slots s r
nearest_done dist clips slots s n k so_far over long r is =
    let count = scanned_count dist clips slots s n k so_far over in
    let front = scanned_front dist clips slots s n k so_far over in
    record {
      finds = scanned_slots dist clips slots s n k so_far over;
      count = is ∙ ap (λ m. min m (length slots)) count;
      first = λ once. subst (FirstOf dist (rows_of clips) (length slots)) (sym (ap (λ j. take j s) is ∙ take_min s n (length slots) long ∙ front))
          (ranking_first dist (rows_of clips) (length slots) once);
    }

pub hits_done : (dist : Row → Option ℕ) (radius : ℕ) (clips : List Clip) (slots s : List Find) (n k : ℕ) → Scanned (within dist radius) clips slots s n k
    → length clips ≤ k → Hits dist radius (rows_of clips) slots s n
hits_done dist radius clips slots s n k so_far over =
    let front = scanned_front (within dist radius) clips slots s n k so_far over in
    record {
      finds = scanned_slots (within dist radius) clips slots s n k so_far over;
      count = scanned_count (within dist radius) clips slots s n k so_far over ∙ hits_counted dist radius (rows_of clips);
      first = λ once. subst (FirstOf (within dist radius) (rows_of clips) (length slots)) (sym front) (ranking_first (within dist radius) (rows_of clips) (length slots) once);
    }
