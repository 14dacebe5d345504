use Rattle.std.proofs.Common.{◌≡◌, ◌/◌, ◌^◌, drop}
use Rattle.space.specs.Boxes.{around, joined}
use Rattle.rules.specs.Division.{group}
use Rattle.tree.proofs.boxes.Boxes.group_box.Given as goal

abbrev pub invariant-loop-i : goal.invariant-loop-i
invariant-loop-i l = joined l.around (group l.second (l.code / 2 ^ l.i) (drop l.i l.self.sets.now)) ≡ around 10 (group l.second l.code l.self.sets.now)
