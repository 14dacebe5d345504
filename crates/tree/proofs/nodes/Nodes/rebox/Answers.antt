use Rattle.std.proofs.Common.{subst}
use Rattle.tree.specs.Nodes.{Written}
use Rattle.tree.proofs.ReadNodes.{read_entries}
use Rattle.tree.proofs.nodes.Nodes.rebox.Goals as goal

pub returns-clause-written : goal.returns-clause-written
returns-clause-written c =
    let w = read_entries c.args.self.now.places.items c.args.at.place c.index.result.now c.requires.0 c.index.ensures _ c.entries.ensures.entries in
    subst (Written c.args.self.now.dims c.args.self.now.places.items c.write.new.self.places.items c.args.at.height c.args.at.place) w c.write.ensures.written
