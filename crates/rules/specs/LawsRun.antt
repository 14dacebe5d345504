-- What holds after every run of calls.
use Rattle.std.specs.Prelude.{◌≡◌, ℕ, ◌≤◌, false, List, [], ◌∷◌, ◌++◌, length, None, ◌==◌}
use Rattle.space.specs.Row.{Row}
use Rattle.rules.specs.Tree.{Tree, empty, rows_in}
use Rattle.rules.specs.Register.{Call, answer, unless, next, registered, answers, ruled, grown}
use Rattle.rules.specs.Promise.{Kept}
use Rattle.rules.specs.Refusals.{when, of_clip, of_enter}
use Rattle.rules.specs.Rows.{lists}

-- The tree that the rules make by any run of calls has the build; its entries are the register's rows, each once; the register has no number
-- twice and no more rows than the capacity; and the boxes are at most half the rows, where those are two or more.
abbrev pub RunsKeep : Type 0
RunsKeep = (plan : List ℕ) (capacity : ℕ) (calls : List Call) → Kept plan capacity calls (grown plan capacity [] (empty (length plan)) calls)

-- so the answer to a next call can be read from the tree's rows in place of the register's
abbrev pub RunsAnswer : Type 0
RunsAnswer = (plan : List ℕ) (capacity : ℕ) (calls : List Call) (t : Tree) → Kept plan capacity calls t → (c : Call)
    → answer plan capacity (rows_in t) c ≡ answer plan capacity (registered plan capacity [] calls) c

-- one call more at the end of a run: the register, its answers, and the tree, from what the register was before
abbrev pub RunsStep : Type 0
RunsStep = (plan : List ℕ) (capacity : ℕ) (rows : List Row) (t : Tree) (calls : List Call) (c : Call)
    → (registered plan capacity rows (calls ++ c ∷ []) ≡ next plan capacity (registered plan capacity rows calls) c)
    × (answers plan capacity rows (calls ++ c ∷ []) ≡ answers plan capacity rows calls ++ answer plan capacity (registered plan capacity rows calls) c ∷ [])
    × (grown plan capacity rows t (calls ++ c ∷ [])
    ≡ unless (answer plan capacity (registered plan capacity rows calls) c) (ruled plan (grown plan capacity rows t calls) c) (grown plan capacity rows t calls))

-- what is kept is kept by one call more, which changes the tree by the rules, unless it is refused, as read from the tree's rows
abbrev pub RunsGoOn : Type 0
RunsGoOn = (plan : List ℕ) (capacity : ℕ) (calls : List Call) (t : Tree) → Kept plan capacity calls t → (c : Call)
    → Kept plan capacity (calls ++ c ∷ []) (unless (answer plan capacity (rows_in t) c) (ruled plan t c) t)

-- a proper clip that is not listed is refused, with 23, exactly where the rows are as many as the capacity
abbrev pub EnterAtCapacity : Type 0
EnterAtCapacity = (plan : List ℕ) (capacity : ℕ) (rows : List Row) (n : ℕ) (v : List ℕ) → of_clip plan n v ≡ None → lists n rows ≡ false
    → length rows ≤ capacity → of_enter plan capacity rows n v ≡ when (length rows == capacity) 23
