use Rattle.std.proofs.Common.{◌≡◌, ◌/◌, ◌^◌, ◌≤◌, ◌++◌, length, drop}
use Rattle.rules.specs.Division.{group}
use Rattle.tree.proofs.division.group_of.Given as goal

abbrev pub invariant-loop-i : goal.invariant-loop-i
invariant-loop-i l = (length l.out ≤ l.i) × (l.out ++ group l.second (l.code / 2 ^ l.i) (drop l.i l.entries) ≡ group l.second l.code l.entries)
