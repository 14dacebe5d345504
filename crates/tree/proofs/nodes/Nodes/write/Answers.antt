use Rattle.std.proofs.Common.{length, take, refl, ap, ◌∙◌}
use Rattle.space.specs.Boxes.{around}
use Rattle.tree.proofs.Cuts.{take_around}
use Rattle.tree.proofs.nodes.Nodes.write.Goals as goal

pub returns-clause-written : goal.returns-clause-written
returns-clause-written c =
    let bs = take (length c.args.entries.now) c.boxes_of-boxes.result in
    record {
      made = c.new.result;
      table = refl;
      long = c.new.ensures.long;
      holds = c.new.ensures.entries;
      sets = ap (take c.args.self.now.dims) (c.new.ensures.sets ∙ c.box_around-sets.ensures)
          ∙ take_around c.args.self.now.dims bs c.args.self.now.axes
          ∙ ap (around c.args.self.now.dims) c.boxes_of-boxes.ensures;
    }
