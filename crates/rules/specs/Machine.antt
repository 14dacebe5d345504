-- The searches over a tree as machines: what is found, how many boxes are opened, and what waits.
use Rattle.std.specs.Prelude.{ℕ, zero, suc, Bool, cond, List, [], ◌∷◌, ◌++◌, Some, None, Option, nat_le, nat_lt}
use Rattle.std.specs.List.{AllByRecursion}
use Rattle.ranked.specs.declared.find.Find.{Find}
use Rattle.ranked.specs.Find.{ahead}
use Rattle.ranked.specs.Rank.{place, keep_first}
use Rattle.space.specs.Row.{Row}
use Rattle.measures.specs.Floor.{Under, Bounded}
use Rattle.rules.specs.Tree.{Entry, Tree, rows_below}
use Rattle.rules.specs.Finds.{finds_of, within, near}
use Rattle.rules.specs.Search.{reach}

-- entries that come one by one, into a list in rank
abbrev pub ranked_all : {E : Type 0} → (E → E → Bool) → List E → List E → List E
ranked_all before [] l = l
ranked_all before (x ∷ xs) l = ranked_all before xs (place before x l)

-- a box that waits: its floor, and the tree from it down
abbrev pub Wait : Type 0
Wait = ℕ × Tree

abbrev pub sooner : Wait → Wait → Bool
sooner a b = nat_lt a.0 b.0

abbrev pub wait_at : Option ℕ → Tree → List Wait
wait_at None t = []
wait_at (Some f) t = (f, t) ∷ []

-- the boxes among some entries that have a floor
abbrev pub waits_of : (List ℕ → Option ℕ) → (h : ℕ) → List (Entry h) → List Wait
waits_of floor zero es = []
waits_of floor (suc h) [] = []
waits_of floor (suc h) (b ∷ bs) = wait_at (floor b.sets) (h, b) ++ waits_of floor (suc h) bs

-- the rows among some entries
abbrev pub own_of : (h : ℕ) → List (Entry h) → List Row
own_of zero es = es
own_of (suc h) es = []

-- The search for the k nearest: F is found, n boxes are opened, and the rest waits, the least floor first. The first is opened unless its
-- floor is above the reach of the finds: its rows become finds, and its boxes wait. The first argument bounds the openings.
abbrev pub searched : ℕ → (Row → Option ℕ) → (List ℕ → Option ℕ) → ℕ → List Find → ℕ → List Wait → List Find × ℕ
searched zero dist floor k F n W = (F, n)
searched (suc m) dist floor k F n [] = (F, n)
searched (suc m) dist floor k F n (w ∷ W) =
    let h = w.1.0 in let es = w.1.1.entries in
    cond (nat_le w.0 (reach k F))
    (searched m dist floor k (keep_first ahead k F (finds_of dist (own_of h es))) (suc n) (ranked_all sooner (waits_of floor h es) W))
    (F, n)

-- Of each of these boxes the floor is none or a number of 32 bits, and under the distance of each row below it, and so on down.
abbrev pub Ruled : (Row → Option ℕ) → (List ℕ → Option ℕ) → (h : ℕ) → List (Entry h) → Type 0
Ruled dist floor zero es = Unit {0}
Ruled dist floor (suc h) [] = Unit {0}
Ruled dist floor (suc h) (b ∷ bs) =
    Bounded (floor b.sets) × AllByRecursion (λ r. Under (floor b.sets) (dist r)) (rows_below h b.entries) × Ruled dist floor h b.entries × Ruled dist floor (suc h) bs

-- the boxes among some entries whose floor is not above the radius
abbrev pub near_of : (List ℕ → Option ℕ) → ℕ → (h : ℕ) → List (Entry h) → List Tree
near_of floor radius zero es = []
near_of floor radius (suc h) [] = []
near_of floor radius (suc h) (b ∷ bs) = cond (near radius (floor b.sets)) ((h, b) ∷ []) [] ++ near_of floor radius (suc h) bs

-- The search within a radius: H are the hits so far, in rank, n boxes are opened, and the rest waits. The first argument bounds the openings.
abbrev pub walked : ℕ → (Row → Option ℕ) → (List ℕ → Option ℕ) → ℕ → List Find → ℕ → List Tree → List Find × ℕ
walked zero dist floor radius H n W = (H, n)
walked (suc m) dist floor radius H n [] = (H, n)
walked (suc m) dist floor radius H n (s ∷ W) =
    let h = s.0 in let es = s.1.entries in
    walked m dist floor radius (ranked_all ahead (finds_of (within dist radius) (own_of h es)) H) (suc n) (near_of floor radius h es ++ W)
