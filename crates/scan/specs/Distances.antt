-- What a search over some rows tells.
use Rattle.std.specs.Prelude.{◌≡◌, ℕ, min, List, length, take, Option}
use Rattle.ranked.specs.declared.find.Find.{Find}
use Rattle.space.specs.Boxes.{filled}
use Rattle.space.specs.Row.{Row}
use Rattle.rules.specs.Finds.{ranking, within, hits_of, hit_count, Once, FirstOf}

-- how far a row lies from a query, by a measure's distances
abbrev pub far_by : (List ℕ → List ℕ → Option ℕ) → List ℕ → Row → Option ℕ
far_by distances query r = distances query r.letters

-- The nearest: r of them stand in the first slots, the other slots have what they had, and, where no number stands twice, they are the
-- first clips that have a distance, as many as there are slots.
pub record Nearest (dist : Row → Option ℕ) (rows : List Row) (slots after : List Find) (r : ℕ) : Type 0 where
  pub finds : after ≡ filled (ranking dist rows) slots
  pub count : r ≡ min (length (ranking dist rows)) (length slots)
  pub first : Once rows → FirstOf dist rows (length slots) (take r after)

-- The hits within a radius: r of them, of which the first stand in the first slots, as far as there are slots.
pub record Hits (dist : Row → Option ℕ) (radius : ℕ) (rows : List Row) (slots after : List Find) (r : ℕ) : Type 0 where
  pub finds : after ≡ filled (hits_of dist radius rows) slots
  pub count : r ≡ hit_count dist radius rows
  pub first : Once rows → FirstOf (within dist radius) rows (length slots) (take r after)
