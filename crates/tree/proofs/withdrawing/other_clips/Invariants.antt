use Rattle.std.proofs.Common.{◌≡◌, ◌≤◌, ◌++◌, length, drop}
use Rattle.tree.specs.Leaving.{kept}
use Rattle.tree.proofs.withdrawing.other_clips.Given as goal

abbrev pub invariant-loop-entry : goal.invariant-loop-entry
invariant-loop-entry l = (length l.out ≤ l.entry-index) × (l.out ++ kept l.number (drop l.entry-index l.entries) ≡ kept l.number l.entries)
