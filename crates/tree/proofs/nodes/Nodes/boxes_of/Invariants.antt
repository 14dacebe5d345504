use Rattle.std.proofs.Common.{◌≡◌, map, length, take}
use Rattle.tree.specs.Nodes.{boxes_of}
use Rattle.tree.proofs.nodes.Nodes.boxes_of.Given as goal

abbrev pub invariant-loop-i : goal.invariant-loop-i
invariant-loop-i l = (length l.boxes ≡ 9) × (map (take l.self.dims) (take l.i l.boxes) ≡ boxes_of l.self.dims l.self.places.items l.height (take l.i l.entries))
