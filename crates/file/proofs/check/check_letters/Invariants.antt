use Rattle.std.proofs.Common.{◌≡◌, ◌+◌, ◌-◌, ◌*◌, ◌≤◌, [], length}
use Rattle.rules.specs.File.{rows_from}
use Rattle.file.specs.Checked.{letters_fault}
use Rattle.file.proofs.check.check_letters.Given as goal

-- what is at fault in the rows that are left is what is at fault in all, and there are letters for them
abbrev pub invariant-loop-index : goal.invariant-loop-index
invariant-loop-index l = record {
  left : letters_fault (l.index + 1) l.plan (rows_from (l.count - l.index) (length l.plan) [] l.rest)
      ≡ letters_fault 1 l.plan (rows_from l.count (length l.plan) [] l.letters);
  enough : length l.plan * (l.count - l.index) ≤ length l.rest;
}
