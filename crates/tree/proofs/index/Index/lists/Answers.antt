use Rattle.std.proofs.Common.{sym, ◌∙◌, subst, add-one, arith}
use Rattle.std.proofs.lemmas.Bool.{lt-leb}
use Rattle.rules.specs.Tree.{rows_in}
use Rattle.tree.specs.Nodes.{spot, Sound}
use Rattle.tree.specs.Seen.{tree_in}
use Rattle.tree.proofs.Changes.{none_above, listed_root}
use Rattle.tree.proofs.Wholes.{whole_of, dimensions_are, low}
use Rattle.tree.proofs.index.Index.lists.Goals as goal

pub overflow_add-self : goal.overflow_add-self
overflow_add-self c = omega (arith, low c.args.self.now)

pub is_listed-requires : goal.is_listed-requires
is_listed-requires c =
    let x = c.args.self.now in
    subst (λ h. Sound x.nodes.places.items h (spot x.root.place)) (sym (add-one x.root.height)) (whole_of x).stands.sound

pub returns-then-number-self : goal.returns-then-number-self
returns-then-number-self c = listed_root c.args.self.now c.args.number c.is_listed.result (dimensions_are c.args.self.now) c.is_listed.ensures

pub returns-else-number-self : goal.returns-else-number-self
returns-else-number-self c =
    let x = c.args.self.now in
    lt-leb c.args.number x.highest c.if-number-self.false ∙ sym (none_above c.args.number x.highest (rows_in (tree_in x)) (whole_of x).below c.if-number-self.false)
