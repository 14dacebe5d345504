use Rattle.std.proofs.Common.{◌≡◌, map, length, take, sym, ap, ◌∙◌, arith, length-set}
use Rattle.std.proofs.ByRecursion.{All-get_or}
use Rattle.std.proofs.lemmas.List.{take_all}
use Rattle.rules.specs.Tree.{sets_of}
use Rattle.tree.specs.Nodes.{Sound, entry_of, boxes_of, no_entry}
use Rattle.tree.proofs.Lists.{map_more_set}
use Rattle.tree.proofs.nodes.Nodes.boxes_of.Goals as goal

pub sets_of-requires : goal.sets_of-requires
sets_of-requires c = All-get_or (Sound c.args.self.now.places.items c.args.height) c.args.entries.now c.loop-i.i no_entry (omega arith) c.requires.sound

pub loop-i-preserved : goal.loop-i-preserved
loop-i-preserved c = (
  length-set _ _ _ ∙ c.loop-i.invariant.0,
  map_more_set (take c.args.self.now.dims) (λ e. sets_of c.args.height (entry_of c.args.self.now.dims c.args.self.now.places.items c.args.height e))
      c.loop-i.boxes c.args.entries.now c.loop-i.i c.sets_of.result no_entry (omega arith) (omega arith) c.loop-i.invariant.1 c.sets_of.ensures,
)

pub returns : goal.returns
returns c =
    let e : c.loop-i.i ≡ length c.args.entries.now = omega arith in
    let w = take_all (length c.args.entries.now) c.args.entries.now (omega arith) in
    ap (λ n. map (take c.args.self.now.dims) (take n c.loop-i.boxes)) (sym e) ∙ c.loop-i.invariant.1
    ∙ ap (λ n. boxes_of c.args.self.now.dims c.args.self.now.places.items c.args.height (take n c.args.entries.now)) e
    ∙ ap (λ x. boxes_of c.args.self.now.dims c.args.self.now.places.items c.args.height x) w
