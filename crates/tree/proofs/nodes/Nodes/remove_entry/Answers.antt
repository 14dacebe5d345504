use Rattle.std.proofs.Common.{suc, ◌++◌, take, drop, sym, ap, ◌∙◌, subst}
use Rattle.std.specs.List.{AllByRecursion}
use Rattle.tree.specs.Nodes.{Sound, Written}
use Rattle.tree.proofs.ReadNodes.{read_entries}
use Rattle.tree.proofs.nodes.Nodes.remove_entry.Goals as goal

pub write-requires-clause-sound : goal.write-requires-clause-sound
write-requires-clause-sound c =
    let w = read_entries c.args.self.now.places.items c.args.at.place c.index.result.now c.requires.within c.index.ensures _ c.entries.ensures.entries in
    let e = c.as_slice.ensures ∙ c.remove.ensures ∙ ap (λ xs. take c.args.p xs ++ drop (suc c.args.p) xs) (c.copied-entries.ensures ∙ w) in
    subst (AllByRecursion (Sound c.args.self.now.places.items c.args.at.height)) (sym e) c.requires.sound

pub returns-clause-written : goal.returns-clause-written
returns-clause-written c =
    let w = read_entries c.args.self.now.places.items c.args.at.place c.index.result.now c.requires.within c.index.ensures _ c.entries.ensures.entries in
    let e = c.as_slice.ensures ∙ c.remove.ensures ∙ ap (λ xs. take c.args.p xs ++ drop (suc c.args.p) xs) (c.copied-entries.ensures ∙ w) in
    subst (Written c.args.self.now.dims c.args.self.now.places.items c.write.new.self.places.items c.args.at.height c.args.at.place) e c.write.ensures.written
