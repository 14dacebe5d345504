-- What a box gives when it is opened: its rows, its boxes that wait, and how much is left below.
use Rattle.std.proofs.Common.{◌≡◌, ℕ, zero, suc, ◌+◌, ◌≤◌, cond, List, [], ◌∷◌, ◌++◌, length, Some, None, Option, sym, refl, ap, ◌∙◌, ap₂, arith}
use Rattle.std.specs.List.{flat_map, AllByRecursion}
use Rattle.std.proofs.lemmas.List.{append-nil}
use Rattle.space.specs.Row.{Row}
use Rattle.measures.specs.Floor.{Under, Bounded}
use Rattle.rules.specs.Tree.{Entry, Tree, rows_below, boxes_from, boxes_in}
use Rattle.rules.specs.Finds.{hit, finds_of, near}
use Rattle.rules.specs.Search.{opened_from}
use Rattle.rules.specs.Machine.{Wait, wait_at, waits_of, own_of, Ruled}
use Rattle.rules.specs.Going.{total, finds_in, opens_at}
use Rattle.rules.proofs.Rankings.{finds_append}

-- the same of a tree from its root: its boxes that wait, its rows, and that its boxes are ruled
abbrev pub waits_in : (List ℕ → Option ℕ) → Tree → List Wait
waits_in floor t = waits_of floor t.0 t.1.entries

abbrev pub own_in : Tree → List Row
own_in t = own_of t.0 t.1.entries

abbrev pub RuledIn : (Row → Option ℕ) → (List ℕ → Option ℕ) → Tree → Type 0
RuledIn dist floor t = Ruled dist floor t.0 t.1.entries

module _ (dist : Row → Option ℕ) where
  -- rows under no floor have no find; rows under a floor have finds not below it
  pub none_found : (rows : List Row) → AllByRecursion (λ r. Under None (dist r)) rows → finds_of dist rows ≡ []
  none_found [] a = refl
  none_found (r ∷ rs) a = go (dist r) a.0 (none_found rs a.1)
    where
      go : (o : Option ℕ) → Under None o → finds_of dist rs ≡ [] → hit o r.number ++ finds_of dist rs ≡ []
      go None u more = more
      go (Some x) u more = absurd u

  found_above : (f : ℕ) (rows : List Row) → AllByRecursion (λ r. Under (Some f) (dist r)) rows → AllByRecursion (λ y. f ≤ y.distance) (finds_of dist rows)
  found_above f [] a = tt
  found_above f (r ∷ rs) a = go (dist r) a.0 (found_above f rs a.1)
    where
      go : (o : Option ℕ) → Under (Some f) o → AllByRecursion (λ y. f ≤ y.distance) (finds_of dist rs)
          → AllByRecursion (λ y. f ≤ y.distance) (hit o r.number ++ finds_of dist rs)
      go None u more = more
      go (Some x) u more = (u, more)

  module _ (floor : List ℕ → Option ℕ) where
    -- the finds below are its own and those below its boxes that wait
    pub finds_open : (h : ℕ) (es : List (Entry h)) → Ruled dist floor h es
        → finds_of dist (rows_below h es) ≡ finds_of dist (own_of h es) ++ flat_map (finds_in dist) (waits_of floor h es)
    finds_open zero es u = sym (append-nil (finds_of dist es))
    finds_open (suc h) [] u = refl
    finds_open (suc h) (b ∷ bs) u =
        finds_append dist (rows_below h b.entries) (rows_below (suc h) bs) ∙ go (floor b.sets) u.1 (finds_open (suc h) bs u.3)
      where
        go : (o : Option ℕ) → AllByRecursion (λ r. Under o (dist r)) (rows_below h b.entries)
            → finds_of dist (rows_below (suc h) bs) ≡ flat_map (finds_in dist) (waits_of floor (suc h) bs)
            → finds_of dist (rows_below h b.entries) ++ finds_of dist (rows_below (suc h) bs) ≡ flat_map (finds_in dist) (wait_at o (h, b) ++ waits_of floor (suc h) bs)
        go None a more = ap₂ (λ x y. x ++ y) (none_found (rows_below h b.entries) a) more
        go (Some f) a more = ap (λ x. finds_of dist (rows_below h b.entries) ++ x) more

    -- of a box that waits: its floor has 32 bits, its boxes are ruled, and no find below it lies below its floor
    abbrev pub Sound : Wait → Type 0
    Sound w = (w.0 ≤ 4294967295) × RuledIn dist floor w.1 × AllByRecursion (λ y. w.0 ≤ y.distance) (finds_in dist w)

    pub sound_open : (h : ℕ) (es : List (Entry h)) → Ruled dist floor h es → AllByRecursion Sound (waits_of floor h es)
    sound_open zero es u = tt
    sound_open (suc h) [] u = tt
    sound_open (suc h) (b ∷ bs) u = go (floor b.sets) u.0 u.1 (sound_open (suc h) bs u.3)
      where
        go : (o : Option ℕ) → Bounded o → AllByRecursion (λ r. Under o (dist r)) (rows_below h b.entries) → AllByRecursion Sound (waits_of floor (suc h) bs)
            → AllByRecursion Sound (wait_at o (h, b) ++ waits_of floor (suc h) bs)
        go None l a more = more
        go (Some f) l a more = ((l, u.2, found_above f (rows_below h b.entries) a), more)

module _ (floor : List ℕ → Option ℕ) where
  -- what a search within the radius opens: the box, and what it opens from each that waits
  pub opens_open : (radius h : ℕ) (es : List (Entry h)) → opened_from floor radius h es ≡ suc (total (opens_at floor radius) (waits_of floor h es))
  opens_open radius zero es = refl
  opens_open radius (suc h) [] = refl
  opens_open radius (suc h) (b ∷ bs) = go (floor b.sets) (opens_open radius (suc h) bs)
    where
      go : (o : Option ℕ) → opened_from floor radius (suc h) bs ≡ suc (total (opens_at floor radius) (waits_of floor (suc h) bs))
          → cond (near radius o) (opened_from floor radius h b.entries) 0 + opened_from floor radius (suc h) bs
          ≡ suc (total (opens_at floor radius) (wait_at o (h, b) ++ waits_of floor (suc h) bs))
      go None more = omega arith
      go (Some f) more = omega arith

  pub boxes_open : (h : ℕ) (es : List (Entry h)) → suc (total (λ w. boxes_in w.1) (waits_of floor h es)) ≤ boxes_from h es
  boxes_open zero es = omega arith
  boxes_open (suc h) [] = omega arith
  boxes_open (suc h) (b ∷ bs) = go (floor b.sets) (boxes_open (suc h) bs)
    where
      go : (o : Option ℕ) → suc (total (λ w. boxes_in w.1) (waits_of floor (suc h) bs)) ≤ boxes_from (suc h) bs
          → suc (total (λ w. boxes_in w.1) (wait_at o (h, b) ++ waits_of floor (suc h) bs)) ≤ boxes_from h b.entries + boxes_from (suc h) bs
      go None more = omega arith
      go (Some f) more = omega arith

  -- as many come to wait as it has entries, at most
  pub waits_few : (h : ℕ) (es : List (Entry h)) → length (waits_of floor h es) ≤ length es
  waits_few zero es = omega arith
  waits_few (suc h) [] = omega arith
  waits_few (suc h) (b ∷ bs) = go (floor b.sets) (waits_few (suc h) bs)
    where
      go : (o : Option ℕ) → length (waits_of floor (suc h) bs) ≤ length bs → length (wait_at o (h, b) ++ waits_of floor (suc h) bs) ≤ suc (length bs)
      go None more = omega arith
      go (Some f) more = omega arith

pub boxes_some : (h : ℕ) (es : List (Entry h)) → 1 ≤ boxes_from h es
boxes_some zero es = omega arith
boxes_some (suc h) [] = omega arith
boxes_some (suc h) (b ∷ bs) = let more = boxes_some (suc h) bs in omega arith
