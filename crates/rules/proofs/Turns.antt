-- The turns of a search whose boxes wait in a table: an entry of the table is read as a box of the tree by a function `read`.
use Rattle.std.proofs.Common.{◌≡◌, ℕ, suc, ◌<◌, ◌≤◌, cond, List, [], ◌∷◌, ◌++◌, map, Option, refl, ap, ◌∙◌}
use Rattle.std.specs.List.{flat_map, AllByRecursion}
use Rattle.std.proofs.lemmas.List.{map-append}
use Rattle.std.proofs.ByRecursion.{All-map}
use Rattle.ranked.specs.declared.find.Find.{Find}
use Rattle.ranked.specs.Find.{ahead}
use Rattle.ranked.specs.Rank.{keep_first}
use Rattle.ranked.specs.Same.{Same, then}
use Rattle.ranked.proofs.Sames.{same_from, same_map}
use Rattle.space.specs.Row.{Row}
use Rattle.rules.specs.Tree.{Box, Entry, Tree, boxes_in}
use Rattle.rules.specs.Finds.{hit, finds_of, within, near}
use Rattle.rules.specs.Search.{reach}
use Rattle.rules.specs.Machine.{Wait, wait_at, waits_of, near_of}
use Rattle.rules.specs.Going.{total, Going, Walking}
use Rattle.rules.proofs.Openings.{waits_in, own_in}
use Rattle.rules.proofs.Searches.{Done, going_more, next_falls, done_above}
use Rattle.rules.proofs.Walks.{near_in, walking_more, walk_falls}

-- ---- the loops over the entries of a box: what they come to, one after the other
module _ {X : Type 0} where
  -- the finds of rows that are read
  pub finds_read : (dist : Row → Option ℕ) (row : X → Row) (xs : List X)
      → finds_of dist (map row xs) ≡ flat_map (λ x. hit (dist (row x)) (row x).number) xs
  finds_read dist row [] = refl
  finds_read dist row (x ∷ xs) = ap (λ l. hit (dist (row x)) (row x).number ++ l) (finds_read dist row xs)

  module _ (floor : List ℕ → Option ℕ) (h : ℕ) (box : X → Box (Entry h)) where
    -- those that wait of boxes that are read
    pub waits_read : (xs : List X) → waits_of floor (suc h) (map box xs) ≡ flat_map (λ x. wait_at (floor (box x).sets) (h, box x)) xs
    waits_read [] = refl
    waits_read (x ∷ xs) = ap (λ l. wait_at (floor (box x).sets) (h, box x) ++ l) (waits_read xs)

    -- those of them that are near
    pub near_read : (radius : ℕ) (xs : List X)
        → near_of floor radius (suc h) (map box xs) ≡ flat_map (λ x. cond (near radius (floor (box x).sets)) ((h, box x) ∷ []) []) xs
    near_read radius [] = refl
    near_read radius (x ∷ xs) = ap (λ l. cond (near radius (floor (box x).sets)) ((h, box x) ∷ []) [] ++ l) (near_read radius xs)

-- the entries that wait in the end are read as those that come and those that waited
read_same : {X Y : Type 0} (read : X → Y) (news V V' : List X) (came : List Y) → map read news ≡ came → Same V' (news ++ V)
    → Same (map read V') (came ++ map read V)
read_same read news V V' came brings s = then (same_map read s) (same_from (map-append read news V ∙ ap (λ l. l ++ map read V) brings))

-- ---- a search for the k nearest, at an entry x that has the least floor
module _ {X : Type 0} (read : X → Wait) (dist : Row → Option ℕ) (floor : List ℕ → Option ℕ) (k : ℕ) (t : Tree) (F : List Find) (n : ℕ) (x : X) (V : List X) (g : Going dist floor k t F n (map read (x ∷ V))) (least : AllByRecursion (λ y. (read x).0 ≤ (read y).0) V) where
  read_least : AllByRecursion (λ w. (read x).0 ≤ w.0) (map read V)
  read_least = All-map (λ w. (read x).0 ≤ w.0) read V least

  -- its floor is above the reach
  pub read_above : 1 ≤ k → reach k F < (read x).0 → Done dist floor k t F n
  read_above one h = done_above dist floor k t F n (read x) (map read V) g read_least one h

  -- it is opened; those of V' wait then, in any order
  module _ (news V' : List X) (brings : map read news ≡ waits_in floor (read x).1) (s : Same V' (news ++ V)) where
    pub read_more : 1 ≤ k → (read x).0 ≤ reach k F
        → Going dist floor k t (keep_first ahead k F (finds_of dist (own_in (read x).1))) (suc n) (map read V')
    read_more one h =
        going_more dist floor k t F n (read x) (map read V) g read_least (map read V')
        (read_same read news V V' (waits_in floor (read x).1) brings s) one h

    -- what is left falls
    pub read_falls : total (λ w. boxes_in w.1) (map read V') < total (λ w. boxes_in w.1) (map read (x ∷ V))
    read_falls =
        next_falls dist floor k t F n (read x) (map read V) g read_least (map read V') (read_same read news V V' (waits_in floor (read x).1) brings s)

-- ---- a search within a radius: the entry x is opened; those of V' wait then, in any order
module _ {X : Type 0} (read : X → Tree) (dist : Row → Option ℕ) (floor : List ℕ → Option ℕ) (radius : ℕ) (t : Tree) (H : List Find) (n : ℕ) (x : X) (V : List X) (g : Walking dist floor radius t H n (map read (x ∷ V))) (news V' : List X) (brings : map read news ≡ near_in floor radius (read x)) (s : Same V' (news ++ V)) where
  -- its hits are kept, in any order
  pub read_walks : (H' : List Find) → Same H' (finds_of (within dist radius) (own_in (read x)) ++ H)
      → Walking dist floor radius t H' (suc n) (map read V')
  read_walks H' hits =
      walking_more dist floor radius t H n (read x) (map read V) g (map read V') (read_same read news V V' (near_in floor radius (read x)) brings s) H' hits

  -- what is left falls
  pub read_walk_falls : total boxes_in (map read V') < total boxes_in (map read (x ∷ V))
  read_walk_falls =
      walk_falls dist floor radius t H n (read x) (map read V) g (map read V') (read_same read news V V' (near_in floor radius (read x)) brings s)
