-- What withdrawing a clip keeps.
use Rattle.std.specs.Prelude.{◌≡◌, ℕ, ◌<◌, true, List, ◌++◌, length}
use Rattle.ranked.specs.Same.{Same}
use Rattle.space.specs.Row.{Row}
use Rattle.rules.specs.Tree.{Tree, rows_in}
use Rattle.rules.specs.Build.{Build}
use Rattle.rules.specs.Rows.{lists, without}
use Rattle.rules.specs.Withdraw.{withdraw_below, settled, withdrawn}
use Rattle.rules.specs.Finds.{Once}

-- the tree that is left before the clips set aside are entered again, and those clips
abbrev pub left_in : ℕ → Tree → ℕ → Tree
left_in d t n = settled d t.0 (withdraw_below d t.0 t.1.entries n).0

abbrev pub aside_in : ℕ → Tree → ℕ → List Row
aside_in d t n = (withdraw_below d t.0 t.1.entries n).1

-- Of a tree of the build that lists a number, and none twice: what is left has the build; its rows and those set aside are all the rows but that
-- number's; so fewer are set aside than there were rows.
abbrev pub WithdrawingLeaves : Type 0
WithdrawingLeaves = (d : ℕ) (t : Tree) (n : ℕ) → Build d t → Once (rows_in t) → lists n (rows_in t) ≡ true
    → Build d (left_in d t n)
    × Same (rows_in (left_in d t n) ++ aside_in d t n) (without n (rows_in t))
    × (length (aside_in d t n) < length (rows_in t))

-- the tree after the withdrawal has the build, and its rows are those before but that number's, in some order
abbrev pub WithdrawingKeeps : Type 0
WithdrawingKeeps = (d : ℕ) (t : Tree) (n : ℕ) → Build d t → Once (rows_in t) → lists n (rows_in t) ≡ true
    → Build d (withdrawn d t n) × Same (without n (rows_in t)) (rows_in (withdrawn d t n))
