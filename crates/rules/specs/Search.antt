-- What the searches over a tree open and answer. They are defined over what a row's distance and a box's floor are, each a number or none.
use Rattle.std.specs.Prelude.{ℕ, zero, suc, ◌+◌, ◌-◌, cond, List, [], ◌∷◌, length, take, Option, nat_lt, slice_index_or}
use Rattle.ranked.specs.declared.find.Find.{Find}
use Rattle.space.specs.Row.{Row}
use Rattle.rules.specs.Tree.{Entry, Tree}
use Rattle.rules.specs.Finds.{ranking, near, hit_count}

-- The boxes that a search within a radius opens, from an opened box down: it, and each box below whose own floor, and that of every box
-- between the two, is a number not above the radius.
abbrev pub opened_from : (List ℕ → Option ℕ) → ℕ → (h : ℕ) → List (Entry h) → ℕ
opened_from floor radius zero es = 1
opened_from floor radius (suc h) [] = 1
opened_from floor radius (suc h) (b ∷ bs) =
    cond (near radius (floor b.sets)) (opened_from floor radius h b.entries) 0 + opened_from floor radius (suc h) bs

abbrev pub opened_in : (List ℕ → Option ℕ) → ℕ → Tree → ℕ
opened_in floor radius t = opened_from floor radius t.0 t.1.entries

-- the radius of a search for the k nearest: the kth find's distance, or the largest one if finds are fewer
abbrev pub reach : ℕ → List Find → ℕ
reach k finds = cond (nat_lt (length finds) k) 4294967295 (slice_index_or finds (k - 1) (record { distance = 0; clip = 0 })).distance

-- what the searches answer: hits and opened boxes; finds, and how many with how many opened boxes
abbrev pub within_answer : (Row → Option ℕ) → (List ℕ → Option ℕ) → ℕ → List Row → Tree → ℕ × ℕ
within_answer dist floor radius rows t = (hit_count dist radius rows, opened_in floor radius t)

abbrev pub nearest_finds : (Row → Option ℕ) → ℕ → List Row → List Find
nearest_finds dist k rows = take k (ranking dist rows)

abbrev pub nearest_answer : (Row → Option ℕ) → (List ℕ → Option ℕ) → ℕ → List Row → Tree → ℕ × ℕ
nearest_answer dist floor k rows t =
    let finds = nearest_finds dist k rows in (length finds, opened_in floor (reach k finds) t)
