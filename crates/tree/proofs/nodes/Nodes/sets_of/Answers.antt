use Rattle.space.specs.Boxes.{point}
use Rattle.std.proofs.Common.{◌<◌, length, take, sym, ap, ◌∙◌, subst, arith}
use Rattle.space.specs.declared.clip.StoredClip.{StoredClip}
use Rattle.tree.specs.declared.node.Node.{Node}
use Rattle.tree.specs.Nodes.{node}
use Rattle.tree.proofs.ReadNodes.{read}
use Rattle.tree.proofs.Cuts.{take_point}
use Rattle.tree.proofs.Levels.{leaf_sets, node_sets, node_sound}
use Rattle.tree.proofs.nodes.Nodes.sets_of.Goals as goal

pub index-requires : goal.index-requires
index-requires c = omega (arith, subst (λ p. p < length c.args.self.now.places.items) (sym c.place.ensures) (node_sound _ c.args.height c.args.e c.if-height-eq0.false c.requires))

pub returns-then-height-eq0 : goal.returns-then-height-eq0
returns-then-height-eq0 c =
    ap (take c.args.self.now.dims) c.point_of.ensures ∙ take_point c.args.self.now.dims _
    ∙ ap (λ (x : StoredClip). point (take c.args.self.now.dims x.letters)) c.clip.ensures
    ∙ sym (leaf_sets c.args.self.now.dims c.args.self.now.places.items c.args.height c.args.e c.if-height-eq0.true)

pub returns-else-height-eq0 : goal.returns-else-height-eq0
returns-else-height-eq0 c =
    let l = subst (λ p. p < length c.args.self.now.places.items) (sym c.place.ensures) (node_sound _ c.args.height c.args.e c.if-height-eq0.false c.requires) in
    ap (λ (n : Node). take c.args.self.now.dims n.sets) (read c.args.self.now.places.items c.place.result c.index.result.now l c.index.ensures)
    ∙ ap (λ p. take c.args.self.now.dims (node c.args.self.now.places.items p).sets) c.place.ensures
    ∙ sym (node_sets c.args.self.now.dims c.args.self.now.places.items c.args.height c.args.e c.if-height-eq0.false)
