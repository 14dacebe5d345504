-- The ranking of a list: it does not turn on the order of the list, and a cut loses nothing.
use Rattle.std.proofs.Common.{◌≡◌, ℕ, zero, suc, ◌≤◌, Bool, true, false, cond, List, [], ◌∷◌, ◌++◌, map, length, take, sym, refl, ap, ◌∙◌, arith}
use Rattle.std.specs.List.{AllByRecursion}
use Rattle.std.proofs.lemmas.Bool.{both_ways}
use Rattle.std.proofs.lemmas.List.{length-take, length-take-le, take-take, take_all, append-nil}
use Rattle.std.proofs.ByRecursion.{All-weaker, All-take}
use Rattle.ranked.specs.Rank.{place, ranked, Order, Tie, InRank, keep_first}
use Rattle.ranked.specs.Same.{Same, none, keep, turn, then}
use Rattle.ranked.specs.LawsRank.{RankingStands}
use Rattle.ranked.proofs.Sames.{same_sym, same_to_front, same_swap, same_before, same_rotate, all_same, length_same}
use Rattle.ranked.proofs.Places.{place_same, place_cut, place_past, place_map}

-- ---- for any test of standing before
module _ {X : Type 0} (before : X → X → Bool) where
  pub ranked_holds : (xs : List X) → Same xs (ranked before xs)
  ranked_holds [] = none
  ranked_holds (x ∷ xs) = then (keep (ranked_holds xs)) (place_same before x (ranked before xs))

  pub length_ranked : (xs : List X) → length (ranked before xs) ≡ length xs
  length_ranked xs = sym (length_same (ranked_holds xs))

  -- what cannot come among the first n may be left out
  pub ranked_past : (n : ℕ) (ys xs : List X) → n ≤ length (ranked before xs)
      → AllByRecursion (λ y. AllByRecursion (λ x. before y x ≡ false) (take n (ranked before xs))) ys → take n (ranked before (ys ++ xs)) ≡ take n (ranked before xs)
  ranked_past n [] xs h all = refl
  ranked_past n (y ∷ ys) xs h all =
      let l = ranked before xs in
      let more : take n (ranked before (ys ++ xs)) ≡ take n l = ranked_past n ys xs h all.1 in
      sym (place_cut before n y (ranked before (ys ++ xs)))
      ∙ ap (λ t. take n (place before y t)) more
      ∙ place_past before n y (take n l) (let z = length-take-le n l h in omega arith) all.0
      ∙ take-take n n l (omega arith)

  pub in_rank_take : (n : ℕ) (xs : List X) → InRank before xs → InRank before (take n xs)
  in_rank_take zero xs h = tt
  in_rank_take (suc n) [] h = tt
  in_rank_take (suc n) (x ∷ xs) h = (All-take (λ y. before y x ≡ false) n xs h.0, in_rank_take n xs h.1)

  pub keep_first_short : (cap : ℕ) (kept xs : List X) → length kept ≤ cap → length (keep_first before cap kept xs) ≤ cap
  keep_first_short cap kept [] h = h
  keep_first_short cap kept (x ∷ xs) h =
      keep_first_short cap (take cap (place before x kept)) xs (let e = length-take cap (place before x kept) in omega arith)

  pub keep_first_append : (cap : ℕ) (kept xs ys : List X) → keep_first before cap kept (xs ++ ys) ≡ keep_first before cap (keep_first before cap kept xs) ys
  keep_first_append cap kept [] ys = refl
  keep_first_append cap kept (x ∷ xs) ys = keep_first_append cap (take cap (place before x kept)) xs ys

pub ranked_map : {X Y : Type 0} (before : X → X → Bool) (other : Y → Y → Bool) (f : X → Y) → ((x y : X) → before x y ≡ other (f x) (f y))
    → (xs : List X) → map f (ranked before xs) ≡ ranked other (map f xs)
ranked_map before other f reads [] = refl
ranked_map before other f reads (x ∷ xs) =
    place_map before other f reads x (ranked before xs) ∙ ap (place other (f x)) (ranked_map before other f reads xs)

-- ---- for an order
module _ {X : Type 0} (before : X → X → Bool) (order : Order before) where
  pub through : (x y z : X) → before x y ≡ true → before y z ≡ true → before x z ≡ true
  through x y z p q = go (before x z) refl
    where
      go : (t : Bool) → before x z ≡ t → before x z ≡ true
      go true e = e
      go false e = absurd (both_ways (before x y) (order.chain x z y e (order.one_way y z q)) p)

  pub not_self : (x : X) → before x x ≡ false
  not_self x = go (before x x) refl
    where
      go : (t : Bool) → before x x ≡ t → before x x ≡ false
      go true e = order.one_way x x e
      go false e = e

  pub place_in_rank : (e : X) (xs : List X) → InRank before xs → InRank before (place before e xs)
  place_in_rank e [] h = (tt, tt)
  place_in_rank e (x ∷ xs) h = go (place_in_rank e xs h.1) (before e x) refl
    where
      go : InRank before (place before e xs) → (t : Bool) → before e x ≡ t → InRank before (cond t (e ∷ x ∷ xs) (x ∷ place before e xs))
      go more true p = (
        (
          order.one_way e x p,
          All-weaker (λ y. before y x ≡ false) (λ y. before y e ≡ false) (λ y q. order.chain y x e q (order.one_way e x p)) xs h.0,
        ),
        h,
      )
      go more false p = (all_same (λ y. before y x ≡ false) (place_same before e xs) (p, h.0), more)

  pub ranked_in_rank : (xs : List X) → InRank before (ranked before xs)
  ranked_in_rank [] = tt
  ranked_in_rank (x ∷ xs) = place_in_rank x (ranked before xs) (ranked_in_rank xs)

  pub keep_first_in_rank : (cap : ℕ) (kept xs : List X) → InRank before kept → InRank before (keep_first before cap kept xs)
  keep_first_in_rank cap kept [] h = h
  keep_first_in_rank cap kept (x ∷ xs) h =
      keep_first_in_rank cap (take cap (place before x kept)) xs (in_rank_take before cap (place before x kept) (place_in_rank x kept h))

-- ---- where two that tie are one value
module _ {X : Type 0} (before : X → X → Bool) (tie : Tie before) where
  -- an entry that none stands before comes first
  pub place_front : (x : X) (xs : List X) → AllByRecursion (λ y. before y x ≡ false) xs → place before x xs ≡ x ∷ xs
  place_front x [] h = refl
  place_front x (y ∷ ys) h = go (place_front x ys h.1) (before x y) refl
    where
      go : place before x ys ≡ x ∷ ys → (t : Bool) → before x y ≡ t → cond t (x ∷ y ∷ ys) (y ∷ place before x ys) ≡ x ∷ y ∷ ys
      go more true p = refl
      go more false p = let one : x ≡ y = tie x y p h.0 in cc

  -- a list in rank is its own ranking
  pub in_rank_is : (xs : List X) → InRank before xs → ranked before xs ≡ xs
  in_rank_is [] h = refl
  in_rank_is (x ∷ xs) h = ap (place before x) (in_rank_is xs h.1) ∙ place_front x xs h.0

-- ---- for an order where two that tie are one value
module _ {X : Type 0} (before : X → X → Bool) (order : Order before) (tie : Tie before) where
  -- two entries come to the same in either order, in any list
  pub place_turn : (a b : X) (xs : List X) → place before a (place before b xs) ≡ place before b (place before a xs)
  place_turn a b [] =
      let h₁ = order.one_way a b in let h₂ = order.one_way b a in let h₃ = tie a b in
      grind arith
  place_turn a b (x ∷ xs) =
      let more = place_turn a b xs in
      let h₁ = order.one_way a b in let h₂ = order.one_way b a in let h₃ = tie a b in
      let h₄ = through before order a b x in let h₅ = through before order b a x in
      grind arith

  pub ranked_same : {xs ys : List X} → Same xs ys → ranked before xs ≡ ranked before ys
  ranked_same none = refl
  ranked_same (keep {x = x} s) = ap (place before x) (ranked_same s)
  ranked_same (turn {x = x} {y = y} {xs = xs}) = place_turn x y (ranked before xs)
  ranked_same (then s t) = ranked_same s ∙ ranked_same t

  -- no other list in rank has the same elements
  pub ranked_only : (xs ys : List X) → InRank before ys → Same xs ys → ys ≡ ranked before xs
  ranked_only xs ys h s = sym (ranked_same s ∙ in_rank_is before tie ys h)

  -- ---- entries that come one after another
  pub keep_first_same : (cap : ℕ) (kept : List X) {xs ys : List X} → Same xs ys → keep_first before cap kept xs ≡ keep_first before cap kept ys
  keep_first_same cap kept none = refl
  keep_first_same cap kept (keep {x = x} s) = keep_first_same cap (take cap (place before x kept)) s
  keep_first_same cap kept (turn {x = x} {y = y} {xs = xs}) =
      ap (λ l. keep_first before cap l xs)
      (place_cut before cap y (place before x kept) ∙ ap (take cap) (place_turn y x kept) ∙ sym (place_cut before cap x (place before y kept)))
  keep_first_same cap kept (then s t) = keep_first_same cap kept s ∙ keep_first_same cap kept t

  -- into the front of a ranking
  pub keep_first_ranked : (cap : ℕ) (xs zs : List X) → keep_first before cap (take cap (ranked before zs)) xs ≡ take cap (ranked before (xs ++ zs))
  keep_first_ranked cap [] zs = refl
  keep_first_ranked cap (x ∷ xs) zs =
      ap (λ l. keep_first before cap l xs) (place_cut before cap x (ranked before zs))
      ∙ keep_first_ranked cap xs (x ∷ zs)
      ∙ ap (take cap) (ranked_same (same_to_front xs x zs))

  -- into a list in rank that is not too long
  pub keep_first_is : (cap : ℕ) (kept xs : List X) → InRank before kept → length kept ≤ cap → keep_first before cap kept xs ≡ take cap (ranked before (xs ++ kept))
  keep_first_is cap kept xs h short =
      ap (λ l. keep_first before cap l xs) (sym (ap (take cap) (in_rank_is before tie kept h) ∙ take_all cap kept short)) ∙ keep_first_ranked cap xs kept

  cut_behind : (cap : ℕ) (xs zs : List X) → InRank before xs → take cap (ranked before (zs ++ take cap xs)) ≡ take cap (ranked before (zs ++ xs))
  cut_behind cap xs [] h =
      ap (take cap) (in_rank_is before tie (take cap xs) (in_rank_take before cap xs h))
      ∙ take-take cap cap xs (omega arith)
      ∙ ap (take cap) (sym (in_rank_is before tie xs h))
  cut_behind cap xs (z ∷ zs) h =
      sym (place_cut before cap z (ranked before (zs ++ take cap xs)))
      ∙ ap (λ l. take cap (place before z l)) (cut_behind cap xs zs h)
      ∙ place_cut before cap z (ranked before (zs ++ xs))

  -- a list in rank may be cut off before others are added
  pub cut_before : (cap : ℕ) (xs zs : List X) → InRank before xs → take cap (ranked before (take cap xs ++ zs)) ≡ take cap (ranked before (xs ++ zs))
  cut_before cap xs zs h =
      ap (take cap) (ranked_same (same_swap (take cap xs) zs)) ∙ cut_behind cap xs zs h ∙ ap (take cap) (ranked_same (same_swap zs xs))

  -- before others are added, entries that came one after another count as if all had been kept
  pub keep_first_ahead : (cap : ℕ) (kept xs zs : List X) → InRank before kept
      → take cap (ranked before (keep_first before cap kept xs ++ zs)) ≡ take cap (ranked before (xs ++ (kept ++ zs)))
  keep_first_ahead cap kept [] zs h = refl
  keep_first_ahead cap kept (x ∷ xs) zs h =
      let more = place before x kept in
      let still : InRank before more = place_in_rank before order x kept h in
      keep_first_ahead cap (take cap more) xs zs (in_rank_take before cap more still)
      ∙ ap (take cap) (ranked_same (same_rotate xs (take cap more) zs))
      ∙ cut_before cap more (xs ++ zs) still
      ∙ ap (take cap) (ranked_same (then (same_before (xs ++ zs) (same_sym (place_same before x kept))) (keep (same_sym (same_rotate xs kept zs)))))

  pub ranking_stands : RankingStands before
  ranking_stands =
      record {
        in_rank = ranked_in_rank before order;
        same = ranked_holds before;
        only = ranked_only;
        front = λ cap xs. keep_first_is cap [] xs tt (omega arith) ∙ ap (λ l. take cap (ranked before l)) (append-nil xs);
        any_order = λ cap kept xs ys s. keep_first_same cap kept s;
      }
