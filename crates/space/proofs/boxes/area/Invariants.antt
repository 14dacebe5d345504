use Rattle.std.proofs.Common.{◌≡◌, ◌*◌, ◌^◌, ◌≤◌, drop}
use Rattle.space.specs.Boxes.{area}
use Rattle.space.proofs.boxes.area.Given as goal

abbrev pub invariant-loop-set : goal.invariant-loop-set
invariant-loop-set l = (l.product * area (drop l.set-index l.sets) ≡ area l.sets) × (l.product ≤ 64 ^ l.set-index)
