-- The search within a radius: what it may leave out, and how it begins, goes on and ends.
use Rattle.std.proofs.Common.{◌≡◌, ℕ, zero, suc, ◌+◌, ◌<◌, ◌≤◌, Bool, true, false, cond, List, [], ◌∷◌, ◌++◌, length, get_or, Some, None, Option, sym, refl, ap, ◌∙◌, subst, ap₂, arith}
use Rattle.std.specs.List.{flat_map, AllByRecursion}
use Rattle.std.proofs.lemmas.List.{append-nil, append_assoc}
use Rattle.std.proofs.ByRecursion.{All-weaker, All-from_get_or}
use Rattle.std.proofs.lemmas.Bool.{leb-false, lt-leb}
use Rattle.ranked.specs.declared.find.Find.{Find}
use Rattle.ranked.specs.Find.{ahead}
use Rattle.ranked.specs.Rank.{InRank, ranked}
use Rattle.ranked.specs.Same.{Same, then}
use Rattle.ranked.proofs.Finds.{ahead_order, ahead_tie}
use Rattle.ranked.proofs.Sames.{same_refl, same_sym, same_after, same_before, same_from, same_rotate, all_same, same_joined, joined_append}
use Rattle.ranked.proofs.Ranks.{ranked_same, length_ranked, in_rank_is}
use Rattle.space.specs.Row.{Row}
use Rattle.space.specs.Boxes.{given}
use Rattle.measures.specs.Floor.{Under}
use Rattle.measures.specs.Layers.{up_to}
use Rattle.rules.specs.Tree.{Entry, Tree, rows_below, rows_in, boxes_from, boxes_in}
use Rattle.rules.specs.Finds.{finds_of, within, hits_of, near, hit_count}
use Rattle.rules.specs.Search.{opened_from, opened_in}
use Rattle.rules.specs.Machine.{ranked_all, own_of, Ruled, near_of, walked}
use Rattle.rules.specs.LawsSearch.{visited, VisitedHits, WalkFinds}
use Rattle.rules.specs.Going.{total, Walking}
use Rattle.rules.proofs.Alls.{all_together}
use Rattle.rules.proofs.Rankings.{finds_append}
use Rattle.rules.proofs.Hits.{hits_counted}
use Rattle.rules.proofs.Placings.{ranked_all_same, ranked_all_in_rank}
use Rattle.rules.proofs.Totals.{total_same, length_total, total_opened, total_falls}
use Rattle.rules.proofs.Openings.{own_in, RuledIn, none_found, boxes_some}

-- the boxes of a tree that a search within the radius opens next
abbrev pub near_in : (List ℕ → Option ℕ) → ℕ → Tree → List Tree
near_in floor radius t = near_of floor radius t.0 t.1.entries

module _ (dist : Row → Option ℕ) (floor : List ℕ → Option ℕ) (radius : ℕ) where
  -- ---- under a floor that is not near lies no hit
  far_none : (o x : Option ℕ) → near radius o ≡ false → Under o x → Under None (up_to radius x)
  far_none None None e u = tt
  far_none None (Some x) e u = absurd u
  far_none (Some f) None e u = tt
  far_none (Some f) (Some x) e u =
      let l = leb-false f radius e in subst (λ b. Under None (given b x)) (sym (lt-leb x radius (omega arith))) tt

  far_found : (o : Option ℕ) → near radius o ≡ false → (rows : List Row) → AllByRecursion (λ r. Under o (dist r)) rows → finds_of (within dist radius) rows ≡ []
  far_found o e rows a =
      none_found (within dist radius) rows
      (All-weaker (λ r. Under o (dist r)) (λ r. Under None (within dist radius r)) (λ r u. far_none o (dist r) e u) rows a)

  visited_finds : (h : ℕ) (es : List (Entry h)) → Ruled dist floor h es
      → finds_of (within dist radius) (visited floor radius h es) ≡ finds_of (within dist radius) (rows_below h es)
  visited_finds zero es u = refl
  visited_finds (suc h) [] u = refl
  visited_finds (suc h) (b ∷ bs) u =
      finds_append (within dist radius) (cond (near radius (floor b.sets)) (visited floor radius h b.entries) []) (visited floor radius (suc h) bs)
      ∙ ap₂ (λ x y. x ++ y) (one (near radius (floor b.sets)) refl (visited_finds h b.entries u.2)) (visited_finds (suc h) bs u.3)
      ∙ sym (finds_append (within dist radius) (rows_below h b.entries) (rows_below (suc h) bs))
    where
      one : (t : Bool) → near radius (floor b.sets) ≡ t
          → finds_of (within dist radius) (visited floor radius h b.entries) ≡ finds_of (within dist radius) (rows_below h b.entries)
          → finds_of (within dist radius) (cond t (visited floor radius h b.entries) []) ≡ finds_of (within dist radius) (rows_below h b.entries)
      one true e more = more
      one false e more = sym (far_found (floor b.sets) e (rows_below h b.entries) u.1)

  -- ---- what a box gives when it is opened
  -- the hits below a box
  abbrev hits_in : Tree → List Find
  hits_in s = finds_of (within dist radius) (rows_in s)

  near_finds : (h : ℕ) (es : List (Entry h)) → Ruled dist floor h es
      → finds_of (within dist radius) (rows_below h es) ≡ finds_of (within dist radius) (own_of h es) ++ flat_map hits_in (near_of floor radius h es)
  near_finds zero es u = sym (append-nil (finds_of (within dist radius) es))
  near_finds (suc h) [] u = refl
  near_finds (suc h) (b ∷ bs) u =
      finds_append (within dist radius) (rows_below h b.entries) (rows_below (suc h) bs)
      ∙ go (near radius (floor b.sets)) refl (near_finds (suc h) bs u.3)
    where
      go : (t : Bool) → near radius (floor b.sets) ≡ t → finds_of (within dist radius) (rows_below (suc h) bs) ≡ flat_map hits_in (near_of floor radius (suc h) bs)
          → hits_in (h, b) ++ finds_of (within dist radius) (rows_below (suc h) bs) ≡ flat_map hits_in (cond t ((h, b) ∷ []) [] ++ near_of floor radius (suc h) bs)
      go true e more = ap (λ x. hits_in (h, b) ++ x) more
      go false e more = ap₂ (λ x y. x ++ y) (far_found (floor b.sets) e (rows_below h b.entries) u.1) more

  near_ruled : (h : ℕ) (es : List (Entry h)) → Ruled dist floor h es → AllByRecursion (RuledIn dist floor) (near_of floor radius h es)
  near_ruled zero es u = tt
  near_ruled (suc h) [] u = tt
  near_ruled (suc h) (b ∷ bs) u = go (near radius (floor b.sets)) (near_ruled (suc h) bs u.3)
    where
      go : (t : Bool) → AllByRecursion (RuledIn dist floor) (near_of floor radius (suc h) bs)
          → AllByRecursion (RuledIn dist floor) (cond t ((h, b) ∷ []) [] ++ near_of floor radius (suc h) bs)
      go true more = (u.2, more)
      go false more = more

  near_opens : (h : ℕ) (es : List (Entry h)) → opened_from floor radius h es ≡ suc (total (opened_in floor radius) (near_of floor radius h es))
  near_opens zero es = refl
  near_opens (suc h) [] = refl
  near_opens (suc h) (b ∷ bs) = go (near radius (floor b.sets)) (near_opens (suc h) bs)
    where
      go : (t : Bool) → opened_from floor radius (suc h) bs ≡ suc (total (opened_in floor radius) (near_of floor radius (suc h) bs))
          → cond t (opened_from floor radius h b.entries) 0 + opened_from floor radius (suc h) bs
          ≡ suc (total (opened_in floor radius) (cond t ((h, b) ∷ []) [] ++ near_of floor radius (suc h) bs))
      go true more = omega arith
      go false more = omega arith

  near_boxes : (h : ℕ) (es : List (Entry h)) → suc (total boxes_in (near_of floor radius h es)) ≤ boxes_from h es
  near_boxes zero es = omega arith
  near_boxes (suc h) [] = omega arith
  near_boxes (suc h) (b ∷ bs) = go (near radius (floor b.sets)) (near_boxes (suc h) bs)
    where
      go : (t : Bool) → suc (total boxes_in (near_of floor radius (suc h) bs)) ≤ boxes_from (suc h) bs
          → suc (total boxes_in (cond t ((h, b) ∷ []) [] ++ near_of floor radius (suc h) bs)) ≤ boxes_from h b.entries + boxes_from (suc h) bs
      go true more = omega arith
      go false more = omega arith

  -- ---- the search of a tree
  module _ (t : Tree) where
    -- at first the root waits
    pub walking_none : RuledIn dist floor t → Walking dist floor radius t [] 0 (t ∷ [])
    walking_none u = record { ruled = (u, tt); finds = same_from (append-nil (hits_in t)); opens = omega arith; sizes = omega arith }

    -- the boxes may wait in any order
    pub walking_same : (H : List Find) (n : ℕ) (V W : List Tree) → Same V W → Walking dist floor radius t H n V → Walking dist floor radius t H n W
    walking_same H n V W s g =
        record {
          ruled = all_same (RuledIn dist floor) s g.ruled;
          finds = then (same_after H (same_joined hits_in (same_sym s))) g.finds;
          opens = ap (λ x. n + x) (total_same (opened_in floor radius) (same_sym s)) ∙ g.opens;
          sizes = (let e = total_same boxes_in s in let z = g.sizes in omega arith);
        }

    -- the box s is opened; then those of W' wait, in any order
    module _ (H : List Find) (n : ℕ) (s : Tree) (W : List Tree) (g : Walking dist floor radius t H n (s ∷ W)) (W' : List Tree) (to : Same W' (near_in floor radius s ++ W)) where
      -- what is left falls
      pub walk_falls : total boxes_in W' < total boxes_in (s ∷ W)
      walk_falls = total_falls boxes_in s (near_in floor radius s) W to (near_boxes s.0 s.1.entries)

      -- its hits are kept, in any order
      pub walking_more : (H' : List Find) → Same H' (finds_of (within dist radius) (own_in s) ++ H) → Walking dist floor radius t H' (suc n) W'
      walking_more H' hits =
          let own = finds_of (within dist radius) (own_in s) in
          let V = near_in floor radius s in
          let rest = flat_map hits_in V ++ flat_map hits_in W in
          let whole : hits_in s ≡ own ++ flat_map hits_in V = near_finds s.0 s.1.entries g.ruled.0 in
          record {
            ruled = all_together (RuledIn dist floor) V W to (near_ruled s.0 s.1.entries g.ruled.0) g.ruled.1;
            finds =
                then (same_before (flat_map hits_in W') hits)
                (then (same_after (own ++ H) (then (same_joined hits_in to) (same_from (joined_append hits_in V W))))
                (then (same_from (append_assoc own H rest))
                (then (same_rotate own H rest)
                (then (same_from (ap (λ l. H ++ l) (sym (append_assoc own (flat_map hits_in V) (flat_map hits_in W)) ∙ ap (λ l. l ++ flat_map hits_in W) (sym whole))))
                g.finds))));
            opens = total_opened (opened_in floor radius) s V W to n (opened_in floor radius t) (near_opens s.0 s.1.entries) g.opens;
            sizes = (let y = walk_falls in let z = g.sizes in omega arith);
          }

    -- how many wait, with those opened, are no more than the boxes of the tree
    pub walking_room : (H : List Find) (n : ℕ) (W : List Tree) → Walking dist floor radius t H n W → n + length W ≤ boxes_in t
    walking_room H n W g =
        let some = All-from_get_or (λ s. 1 ≤ boxes_in s) W t (λ i l. let s = get_or W i t in boxes_some s.0 s.1.entries) in
        let a = length_total boxes_in W some in
        let z = g.sizes in
        omega arith

    -- none waits any more
    pub walked_all : (H : List Find) (n : ℕ) → Walking dist floor radius t H n []
        → (ranked ahead H ≡ hits_of dist radius (rows_in t)) × (n ≡ opened_in floor radius t)
    walked_all H n g = (
      ranked_same ahead ahead_order ahead_tie (then (same_from (sym (append-nil H))) g.finds),
      (let z = g.opens in omega arith),
    )

    -- there are then as many hits as rows within the radius
    pub walked_count : (H : List Find) (n : ℕ) → Walking dist floor radius t H n [] → length H ≡ hit_count dist radius (rows_in t)
    walked_count H n g =
        sym (length_ranked ahead H) ∙ ap length (walked_all H n g).0 ∙ hits_counted dist radius (rows_in t)

    -- ---- the search as a whole
    abbrev Answer : List Find × ℕ
    Answer = (hits_of dist radius (rows_in t), opened_in floor radius t)

    answer_is : (H : List Find) (n : ℕ) → Walking dist floor radius t H n [] → InRank ahead H → ◌≡◌ {A = List Find × ℕ} (H, n) Answer
    answer_is H n g r =
        let d = walked_all H n g in
        let pair : List Find → ℕ → List Find × ℕ = λ a b. (a, b) in
        ap₂ pair (sym (in_rank_is ahead ahead_tie H r) ∙ d.0) d.1

    walk_goes : (m : ℕ) (H : List Find) (n : ℕ) (W : List Tree) → Walking dist floor radius t H n W → InRank ahead H → total boxes_in W ≤ m
        → walked m dist floor radius H n W ≡ Answer
    walk_goes zero H n [] g r l = answer_is H n g r
    walk_goes zero H n (s ∷ W) g r l = absurd (let b = boxes_some s.0 s.1.entries in omega arith)
    walk_goes (suc m) H n [] g r l = answer_is H n g r
    walk_goes (suc m) H n (s ∷ W) g r l =
        let own = finds_of (within dist radius) (own_in s) in
        let W' = near_in floor radius s ++ W in
        walk_goes m (ranked_all ahead own H) (suc n) W'
        (walking_more H n s W g W' (same_refl W') (ranked_all ahead own H) (ranked_all_same ahead own H))
        (ranked_all_in_rank ahead ahead_order own H r)
        (let z = walk_falls H n s W g W' (same_refl W') in omega arith)

pub visited_hits : VisitedHits
visited_hits dist floor radius t u = ap (ranked ahead) (visited_finds dist floor radius t.0 t.1.entries u)

pub walk_finds : WalkFinds
walk_finds dist floor radius t u = walk_goes dist floor radius t (boxes_in t) [] 0 (t ∷ []) (walking_none dist floor radius t u) tt (omega arith)
