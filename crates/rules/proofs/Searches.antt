-- The search for the k nearest begins, goes on and ends.
use Rattle.std.proofs.Common.{◌≡◌, ℕ, zero, suc, ◌+◌, ◌<◌, ◌≤◌, false, leb, List, [], ◌∷◌, ◌++◌, length, get_or, take, Option, sym, ap, ◌∙◌, subst, ap₂, arith}
use Rattle.std.specs.List.{flat_map, AllByRecursion}
use Rattle.std.proofs.lemmas.List.{append-nil, append_assoc, take_all}
use Rattle.std.proofs.ByRecursion.{All-weaker, All-from_get_or}
use Rattle.std.proofs.lemmas.Bool.{leb-true, leb-false, lt-leb, le-leb, ltb-false, cond-true, cond-false, cond_both}
use Rattle.std.proofs.lemmas.Bool.Decides.{nat_tests}
use Rattle.ranked.specs.declared.find.Find.{Find}
use Rattle.ranked.specs.Find.{ahead}
use Rattle.ranked.specs.Rank.{Order, InRank, ranked, keep_first}
use Rattle.ranked.specs.Same.{Same, then}
use Rattle.ranked.proofs.Finds.{ahead_order, ahead_tie, farther}
use Rattle.ranked.proofs.Sames.{same_sym, same_after, same_swap, same_from, same_rotate, all_same, same_joined, joined_append}
use Rattle.ranked.proofs.Ranks.{ranked_same, ranked_past, in_rank_is, keep_first_ahead, keep_first_in_rank, keep_first_short}
use Rattle.space.specs.Row.{Row}
use Rattle.rules.specs.Tree.{Tree, rows_in, boxes_in}
use Rattle.rules.specs.Finds.{finds_of}
use Rattle.rules.specs.Search.{reach, opened_in}
use Rattle.rules.specs.Machine.{ranked_all, Wait, sooner, searched}
use Rattle.rules.specs.LawsSearch.{SearchFinds}
use Rattle.rules.specs.Going.{total, finds_in, opens_at, nearest_in, Going}
use Rattle.rules.proofs.Alls.{all_joined, all_both, all_together}
use Rattle.rules.proofs.Rankings.{no_find}
use Rattle.rules.proofs.Placings.{ranked_all_same, ranked_all_in_rank}
use Rattle.rules.proofs.Totals.{total_same, total_none, length_total, total_opened, total_falls}
use Rattle.rules.proofs.Reaches.{reach_within, reach_above}
use Rattle.rules.proofs.Openings.{waits_in, own_in, RuledIn, Sound, finds_open, sound_open, opens_open, boxes_open, boxes_some}

module _ (dist : Row → Option ℕ) (floor : List ℕ → Option ℕ) (k : ℕ) (t : Tree) where
  -- at first the root waits, at the floor 0
  pub going_none : RuledIn dist floor t → Going dist floor k t [] 0 ((0, t) ∷ [])
  going_none u =
      record {
        nears = tt;
        short = omega arith;
        small = (omega arith, tt);
        ruled = (u, tt);
        bounds = (All-from_get_or (λ y. 0 ≤ y.distance) (finds_of dist (rows_in t)) no_find (λ i l. omega arith), tt);
        finds = ap (λ l. take k (ranked ahead l)) (append-nil (finds_of dist (rows_in t)));
        opens = (let R = reach k (nearest_in dist k t) in let e = cond-true (leb 0 R) (opened_in floor R t) 0 (le-leb 0 R (omega arith)) in omega arith);
        sizes = omega arith;
      }

  -- the boxes may wait in any order
  pub going_same : (F : List Find) (n : ℕ) (V W : List Wait) → Same V W → Going dist floor k t F n V → Going dist floor k t F n W
  going_same F n V W s g =
      record {
        nears = g.nears;
        short = g.short;
        small = all_same (λ w. w.0 ≤ 4294967295) s g.small;
        ruled = all_same (λ w. RuledIn dist floor w.1) s g.ruled;
        bounds = all_same (λ w. AllByRecursion (λ y. w.0 ≤ y.distance) (finds_in dist w)) s g.bounds;
        finds = ap (take k) (ranked_same ahead ahead_order ahead_tie (same_after F (same_joined (finds_in dist) (same_sym s)))) ∙ g.finds;
        opens = ap (λ x. n + x) (total_same (opens_at floor (reach k (nearest_in dist k t))) (same_sym s)) ∙ g.opens;
        sizes = (let e = total_same (λ (w : Wait). boxes_in w.1) s in let z = g.sizes in omega arith);
      }

  -- ---- the box w, which has the least floor of those that wait, is opened; then those of W' wait
  module _ (F : List Find) (n : ℕ) (w : Wait) (W : List Wait) (g : Going dist floor k t F n (w ∷ W)) (least : AllByRecursion (λ y. w.0 ≤ y.0) W) where
    -- no find to come lies below the least floor
    all_above : AllByRecursion (λ y. w.0 ≤ y.distance) (flat_map (finds_in dist) (w ∷ W))
    all_above =
        all_joined (λ y. w.0 ≤ y.distance) (finds_in dist) (w ∷ W)
        (all_both (λ v. w.0 ≤ v.0) (λ v. AllByRecursion (λ y. v.0 ≤ y.distance) (finds_in dist v)) (λ v. AllByRecursion (λ y. w.0 ≤ y.distance) (finds_in dist v))
        (λ v a b. All-weaker (λ y. v.0 ≤ y.distance) (λ y. w.0 ≤ y.distance) (λ y c. omega arith) (finds_in dist v) b)
        (w ∷ W) (omega arith, least) g.bounds)

    -- a box that is opened is within the reach of the answer
    within_now : 1 ≤ k → w.0 ≤ reach k F → w.0 ≤ reach k (nearest_in dist k t)
    within_now one h =
        subst (λ l. w.0 ≤ reach k l) g.finds
        (reach_within k F (flat_map (finds_in dist) (w ∷ W)) w.0 one g.short g.small.0 all_above h)

    module _ (W' : List Wait) (s : Same W' (waits_in floor w.1 ++ W)) where
      next_finds : take k (ranked ahead (keep_first ahead k F (finds_of dist (own_in w.1)) ++ flat_map (finds_in dist) W')) ≡ nearest_in dist k t
      next_finds =
          let own = finds_of dist (own_in w.1) in
          let V = waits_in floor w.1 in
          let U = finds_in dist in
          let mix : Same (flat_map U W') (flat_map U V ++ flat_map U W) = then (same_joined U s) (same_from (joined_append U V W)) in
          let whole : U w ≡ own ++ flat_map U V = finds_open dist floor w.1.0 w.1.1.entries g.ruled.0 in
          let back : Same (own ++ (F ++ flat_map U W')) (F ++ (U w ++ flat_map U W)) =
          then (same_after own (same_after F mix))
          (then (same_rotate own F (flat_map U V ++ flat_map U W))
          (same_from (ap (λ l. F ++ l) (sym (append_assoc own (flat_map U V) (flat_map U W)) ∙ ap (λ l. l ++ flat_map U W) (sym whole))))) in
          keep_first_ahead ahead ahead_order ahead_tie k F own (flat_map U W') g.nears
          ∙ ap (take k) (ranked_same ahead ahead_order ahead_tie back)
          ∙ g.finds

      next_opens : w.0 ≤ reach k (nearest_in dist k t)
          → suc n + total (opens_at floor (reach k (nearest_in dist k t))) W' ≡ opened_in floor (reach k (nearest_in dist k t)) t
      next_opens h =
          let R = reach k (nearest_in dist k t) in
          total_opened (opens_at floor R) w (waits_in floor w.1) W s n (opened_in floor R t)
          (cond-true (leb w.0 R) (opened_in floor R w.1) 0 (le-leb w.0 R h) ∙ opens_open floor R w.1.0 w.1.1.entries) g.opens

      -- what is left falls
      pub next_falls : total (λ v. boxes_in v.1) W' < total (λ v. boxes_in v.1) (w ∷ W)
      next_falls = total_falls (λ v. boxes_in v.1) w (waits_in floor w.1) W s (boxes_open floor w.1.0 w.1.1.entries)

      -- its rows are found, and its boxes wait, in any order
      pub going_more : 1 ≤ k → w.0 ≤ reach k F → Going dist floor k t (keep_first ahead k F (finds_of dist (own_in w.1))) (suc n) W'
      going_more one h =
          let own = finds_of dist (own_in w.1) in
          let V = waits_in floor w.1 in
          let sound : AllByRecursion (Sound dist floor) V = sound_open dist floor w.1.0 w.1.1.entries g.ruled.0 in
          let Small : Wait → Type 0 = λ v. v.0 ≤ 4294967295 in
          let Rules : Wait → Type 0 = λ v. RuledIn dist floor v.1 in
          let Bound : Wait → Type 0 = λ v. AllByRecursion (λ y. v.0 ≤ y.distance) (finds_in dist v) in
          record {
            nears = keep_first_in_rank ahead ahead_order k F own g.nears;
            short = keep_first_short ahead k F own g.short;
            small = all_together Small V W s (All-weaker (Sound dist floor) Small (λ v a. a.0) V sound) g.small.1;
            ruled = all_together Rules V W s (All-weaker (Sound dist floor) Rules (λ v a. a.1) V sound) g.ruled.1;
            bounds = all_together Bound V W s (All-weaker (Sound dist floor) Bound (λ v a. a.2) V sound) g.bounds.1;
            finds = next_finds;
            opens = next_opens (within_now one h);
            sizes = (let z = g.sizes in let y = next_falls in omega arith);
          }

  -- how many wait, with those opened, are no more than the boxes of the tree
  pub going_room : (F : List Find) (n : ℕ) (W : List Wait) → Going dist floor k t F n W → n + length W ≤ boxes_in t
  going_room F n W g =
      let size : Wait → ℕ = λ v. boxes_in v.1 in
      let some = All-from_get_or (λ v. 1 ≤ size v) W (0, t) (λ i l. let v = get_or W i (0, t) in boxes_some v.1.0 v.1.1.entries) in
      let a = length_total size W some in
      let z = g.sizes in
      omega arith

  -- ---- the end
  -- the answer
  abbrev pub Done : List Find → ℕ → Type 0
  Done F n = (F ≡ nearest_in dist k t) × (n ≡ opened_in floor (reach k (nearest_in dist k t)) t)

  -- none waits any more
  pub done_empty : (F : List Find) (n : ℕ) → Going dist floor k t F n [] → Done F n
  done_empty F n g = (
    sym (ap (λ l. take k (ranked ahead l)) (append-nil F) ∙ ap (take k) (in_rank_is ahead ahead_tie F g.nears) ∙ take_all k F g.short) ∙ g.finds,
    (let z = g.opens in omega arith),
  )

  -- the least floor is above the reach
  pub done_above : (F : List Find) (n : ℕ) (w : Wait) (W : List Wait) → Going dist floor k t F n (w ∷ W) → AllByRecursion (λ y. w.0 ≤ y.0) W
      → 1 ≤ k → reach k F < w.0 → Done F n
  done_above F n w W g least one h =
      let U = flat_map (finds_in dist) (w ∷ W) in
      let full = reach_above k F w.0 one g.short g.nears g.small.0 h in
      let same : ranked ahead F ≡ F = in_rank_is ahead ahead_tie F g.nears in
      let front : take k (ranked ahead F) ≡ F = ap (take k) same ∙ take_all k F g.short in
      let past : take k (ranked ahead (U ++ F)) ≡ take k (ranked ahead F) =
      ranked_past ahead k U F (let e = ap length same in let l = full.0 in omega arith)
      (All-weaker (λ y. w.0 ≤ y.distance) (λ y. AllByRecursion (λ z. ahead y z ≡ false) (take k (ranked ahead F)))
      (λ y a. subst (λ l. AllByRecursion (λ z. ahead y z ≡ false) l) (sym front)
      (All-weaker (λ z. z.distance < w.0) (λ z. ahead y z ≡ false) (λ z b. farther z y (omega arith)) F full.1))
      U (all_above F n w W g least)) in
      let found : F ≡ nearest_in dist k t = sym front ∙ sym past ∙ ap (take k) (ranked_same ahead ahead_order ahead_tie (same_swap U F)) ∙ g.finds in
      let R = reach k (nearest_in dist k t) in
      let below : R < w.0 = subst (λ l. reach k l < w.0) found h in
      let gone : total (opens_at floor R) (w ∷ W) ≡ 0 =
      total_none (opens_at floor R) (w ∷ W)
      (All-weaker (λ y. w.0 ≤ y.0) (λ y. opens_at floor R y ≡ 0)
      (λ y a. cond-false (leb y.0 R) (opened_in floor R y.1) 0 (lt-leb y.0 R (omega arith))) (w ∷ W) (omega arith, least)) in
      (found, last n (total (opens_at floor R) (w ∷ W)) (opened_in floor R t) gone g.opens)
    where
      last : (n x z : ℕ) → x ≡ 0 → n + x ≡ z → n ≡ z
      last n x z p q = omega arith

-- ---- the search as a whole
sooner_order : Order sooner
sooner_order = record { one_way = λ x y h. grind (arith, nat_tests); chain = λ x y z h k. grind (arith, nat_tests) }

least_first : (w : Wait) (W : List Wait) → InRank sooner (w ∷ W) → AllByRecursion (λ y. w.0 ≤ y.0) W
least_first w W r = All-weaker (λ y. sooner y w ≡ false) (λ y. w.0 ≤ y.0) (λ y e. ltb-false y.0 w.0 e) W r.0

module _ (dist : Row → Option ℕ) (floor : List ℕ → Option ℕ) (k : ℕ) (t : Tree) (one : 1 ≤ k) where
  abbrev Answer : List Find × ℕ
  Answer = (nearest_in dist k t, opened_in floor (reach k (nearest_in dist k t)) t)

  answer_is : (F : List Find) (n : ℕ) → Done dist floor k t F n → ◌≡◌ {A = List Find × ℕ} (F, n) Answer
  answer_is F n d = let pair : List Find → ℕ → List Find × ℕ = λ a b. (a, b) in ap₂ pair d.0 d.1

  search_goes : (m : ℕ) (F : List Find) (n : ℕ) (W : List Wait) → Going dist floor k t F n W → InRank sooner W → total (λ w. boxes_in w.1) W ≤ m
      → searched m dist floor k F n W ≡ Answer
  search_goes zero F n [] g r l = answer_is F n (done_empty dist floor k t F n g)
  search_goes zero F n (w ∷ W) g r l = absurd (let b = boxes_some w.1.0 w.1.1.entries in omega arith)
  search_goes (suc m) F n [] g r l = answer_is F n (done_empty dist floor k t F n g)
  search_goes (suc m) F n (w ∷ W) g r l =
      let low = least_first w W r in
      let V = waits_in floor w.1 in
      let W' = ranked_all sooner V W in
      let F' = keep_first ahead k F (finds_of dist (own_in w.1)) in
      let s : Same W' (V ++ W) = ranked_all_same sooner V W in
      cond_both (leb w.0 (reach k F)) (searched m dist floor k F' (suc n) W') (F, n) (λ x. x ≡ Answer)
      (λ e. search_goes m F' (suc n) W'
      (going_more dist floor k t F n w W g low W' s one (leb-true w.0 (reach k F) e))
      (ranked_all_in_rank sooner sooner_order V W r.1)
      (let z = next_falls dist floor k t F n w W g low W' s in omega arith))
      (λ e. answer_is F n (done_above dist floor k t F n w W g low one (leb-false w.0 (reach k F) e)))

pub search_finds : SearchFinds
search_finds dist floor k t one u =
    search_goes dist floor k t one (boxes_in t) [] 0 ((0, t) ∷ []) (going_none dist floor k t u) (tt, tt) (omega arith)
