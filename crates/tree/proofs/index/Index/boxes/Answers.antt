use Rattle.std.proofs.Common.{length}
use Rattle.tree.specs.Seen.{plan_of}
use Rattle.tree.proofs.Tallies.{used_boxes}
use Rattle.tree.proofs.Wholes.{whole_of}
use Rattle.tree.proofs.index.Index.boxes.Goals as goal

pub returns : goal.returns
returns c =
    let x = c.args.self.now in
    let s = (whole_of x).stands in
    used_boxes (length (plan_of x)) x.nodes.places.items x.free.places.items x.free.used x.root.height x.root.place s.sound s.spread s.high s.stack
