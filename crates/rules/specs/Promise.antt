-- What holds of a catalogue after every run of calls.
use Rattle.std.specs.Prelude.{◌≡◌, ℕ, ◌*◌, ◌≤◌, List, [], length}
use Rattle.std.specs.List.{AllByRecursion}
use Rattle.ranked.specs.Same.{Same}
use Rattle.space.specs.Row.{Row}
use Rattle.rules.specs.Tree.{Tree, empty, rows_in, boxes_in}
use Rattle.rules.specs.Build.{Build}
use Rattle.rules.specs.Finds.{Once}
use Rattle.rules.specs.Refusals.{bad_letter}
use Rattle.rules.specs.Register.{Call, registered, grown}

-- a row of a catalogue of that plan: a number from 1 on, as many letters as the plan has sizes, each below its size
abbrev pub Proper : List ℕ → Row → Type 0
Proper plan r = (1 ≤ r.number) × (length r.letters ≡ length plan) × (bad_letter 1 plan r.letters ≡ 0)

-- The tree t of a catalogue, new from a start with that plan and capacity, after those calls.
pub record Kept (plan : List ℕ) (capacity : ℕ) (calls : List Call) (t : Tree) : Type 0 where
  pub tree : t ≡ grown plan capacity [] (empty (length plan)) calls
  pub build : Build (length plan) t
  pub entries : Same (registered plan capacity [] calls) (rows_in t)
  pub proper : AllByRecursion (Proper plan) (registered plan capacity [] calls)
  pub once : Once (registered plan capacity [] calls)
  pub room : length (registered plan capacity [] calls) ≤ capacity
  pub boxes : 2 ≤ length (registered plan capacity [] calls) → 2 * boxes_in t ≤ length (registered plan capacity [] calls)
