use Rattle.std.proofs.Common.{length, sym, ap, ◌∙◌, subst, rules, tests}
use Rattle.std.specs.List.{AllByRecursion, All}
use Rattle.std.proofs.ByRecursion.{All-get_or}
use Rattle.std.specs.Option.{unwrap_or}
use Rattle.std.proofs.iter.Serving.{serving}
use Rattle.std.proofs.lemmas.Iterator.{YieldsList-from_slice}
use Rattle.std.proofs.lemmas.Iterator.Search.{position_from_yields_List}
use Rattle.tree.specs.Nodes.{Sound}
use Rattle.tree.specs.Leaving.{listed_in, first_index}
use Rattle.tree.proofs.ReadNodes.{read_entries}
use Rattle.tree.proofs.Looks.{first_found}
use Rattle.tree.proofs.nodes.Nodes.holder_of.Goals as goal

pub position-requires-clause-callable : goal.position-requires-clause-callable
position-requires-clause-callable c =
    let w = read_entries c.args.self.now.places.items c.args.at.place c.index.result.now c.requires.0 c.index.ensures _ c.entries-entries.ensures.entries in
    let all : All (Sound c.args.self.now.places.items c.args.at.height) c.entries-entries.result.now = λ k x l. All-get_or (Sound c.args.self.now.places.items c.args.at.height) c.entries-entries.result.now k x l
    (subst (AllByRecursion (Sound c.args.self.now.places.items c.args.at.height)) (sym w) c.requires.1) in
    grind serving

pub returns : goal.returns
returns c =
    let w = read_entries c.args.self.now.places.items c.args.at.place c.index.result.now c.requires.0 c.index.ensures _ c.entries-entries.ensures.entries in
    let e = position_from_yields_List (listed_in c.args.self.now.dims c.args.self.now.places.items c.args.at.height c.args.number) _ _ c.position.result c.position.ensures.ran
    (YieldsList-from_slice c.entries-entries.result.now (cc)) (λ x b q k. search (rules, tests)) in
    c.unwrap_or.ensures ∙ ap (λ r. unwrap_or r (length c.entries-entries.result.now)) e
    ∙ first_found (listed_in c.args.self.now.dims c.args.self.now.places.items c.args.at.height c.args.number) c.entries-entries.result.now
    ∙ ap (first_index (listed_in c.args.self.now.dims c.args.self.now.places.items c.args.at.height c.args.number)) w
