use Rattle.std.proofs.Common.{◌≡◌, ◌+◌, map, drop}
use Rattle.file.specs.Checked.{number_fault}
use Rattle.file.specs.Cut.{numbered}
use Rattle.file.proofs.check.check_numbers.Given as goal

abbrev pub invariant-loop-index : goal.invariant-loop-index
invariant-loop-index l = number_fault (l.index + 1) l.last (map numbered (drop l.index l.numbers)) ≡ number_fault 1 0 (map numbered l.numbers)
