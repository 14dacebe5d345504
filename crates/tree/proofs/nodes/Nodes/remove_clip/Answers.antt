use Rattle.std.proofs.Common.{length, sym, ap, ◌∙◌, subst, arith}
use Rattle.std.specs.List.{AllByRecursion}
use Rattle.tree.specs.Nodes.{node, inside, Sound, Written}
use Rattle.tree.specs.Leaving.{kept}
use Rattle.tree.proofs.Looks.{all_kept, length_kept}
use Rattle.tree.proofs.ReadNodes.{read_entries}
use Rattle.tree.proofs.nodes.Nodes.remove_clip.Goals as goal

pub write-requires-clause-few : goal.write-requires-clause-few
write-requires-clause-few c =
    omega (arith, ap length (c.as_slice.ensures ∙ c.other_clips-stay.ensures), length_kept c.args.number c.entries.result.now, c.entries.ensures.long, c.index.result.now.few)

pub write-requires-clause-sound : goal.write-requires-clause-sound
write-requires-clause-sound c =
    let w = read_entries c.args.self.now.places.items c.args.place c.index.result.now c.requires.0 c.index.ensures _ c.entries.ensures.entries in
    let e = c.as_slice.ensures ∙ c.other_clips-stay.ensures ∙ ap (kept c.args.number) w in
    subst (AllByRecursion (Sound c.args.self.now.places.items 0)) (sym e) (all_kept (Sound c.args.self.now.places.items 0) c.args.number (inside (node c.args.self.now.places.items c.args.place)) c.requires.1)

pub returns-clause-written : goal.returns-clause-written
returns-clause-written c =
    let w = read_entries c.args.self.now.places.items c.args.place c.index.result.now c.requires.0 c.index.ensures _ c.entries.ensures.entries in
    let e = c.as_slice.ensures ∙ c.other_clips-stay.ensures ∙ ap (kept c.args.number) w in
    subst (Written c.args.self.now.dims c.args.self.now.places.items c.write.new.self.places.items 0 c.args.place) e c.write.ensures.written
