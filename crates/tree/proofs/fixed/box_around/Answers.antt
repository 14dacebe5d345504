use Rattle.std.proofs.Common.{◌≡◌, replicate, fold, ◌∙◌, rules}
use Rattle.space.specs.Boxes.{join}
use Rattle.tree.proofs.Cuts.{joined_folded}
use Rattle.tree.proofs.fixed.box_around.Goals as goal

pub returns : goal.returns
returns c =
    let e : c.fold.result ≡ fold join (replicate 10 0) c.args.boxes.now = search rules in
    e ∙ joined_folded (replicate 10 0) c.args.boxes.now
