use Rattle.std.proofs.Common.{ℕ, ◌+◌, ◌≤◌, List, [], ◌∷◌, ◌++◌, sym, ap, ◌∙◌, subst}
use Rattle.tree.specs.declared.node.NodeEntry.{NodeEntry}
use Rattle.std.specs.List.{AllByRecursion}
use Rattle.tree.specs.Nodes.{Sound, Fitted, one, total, times}
use Rattle.tree.proofs.ReadNodes.{read_entries}
use Rattle.tree.proofs.nodes.Nodes.add.Goals as goal

pub settle-requires-clause-sound : goal.settle-requires-clause-sound
settle-requires-clause-sound c =
    let w = read_entries c.args.self.now.places.items c.args.at.place c.index.result.now c.requires.within c.index.ensures _ c.entries.ensures.entries in
    let e = c.as_slice.ensures ∙ c.push.ensures ∙ ap (λ x. x ++ c.args.entry ∷ []) (c.copied-entries.ensures ∙ w) in
    subst (AllByRecursion (Sound c.args.self.now.places.items c.args.at.height)) (sym e) c.requires.sound

pub settle-requires-clause-apart : goal.settle-requires-clause-apart
settle-requires-clause-apart c =
    let w = read_entries c.args.self.now.places.items c.args.at.place c.index.result.now c.requires.within c.index.ensures _ c.entries.ensures.entries in
    let e = c.as_slice.ensures ∙ c.push.ensures ∙ ap (λ x. x ++ c.args.entry ∷ []) (c.copied-entries.ensures ∙ w) in
    let P : List NodeEntry → Type 0 = λ es. (k : ℕ) → one c.args.at.place k + one c.args.spare k + total (λ e. times c.args.self.now.places.items c.args.at.height e k) es ≤ 1 in
    subst P (sym e) c.requires.apart

pub returns-clause-fitted : goal.returns-clause-fitted
returns-clause-fitted c =
    let w = read_entries c.args.self.now.places.items c.args.at.place c.index.result.now c.requires.within c.index.ensures _ c.entries.ensures.entries in
    let e = c.as_slice.ensures ∙ c.push.ensures ∙ ap (λ x. x ++ c.args.entry ∷ []) (c.copied-entries.ensures ∙ w) in
    subst (λ es. Fitted c.args.self.now.dims c.args.self.now.places.items c.settle.new.self.places.items c.args.at.height c.args.at.place c.args.spare es c.settle.result) e c.settle.ensures.fitted
