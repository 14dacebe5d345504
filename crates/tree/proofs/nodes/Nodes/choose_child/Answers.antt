use Rattle.std.proofs.Common.{◌≡◌, ℕ, List, ◌<◌, length, get_or, take, ap, ◌∙◌, subst, arith}
use Rattle.std.proofs.lemmas.List.{length-take}
use Rattle.rules.specs.Choice.{chosen}
use Rattle.tree.specs.Nodes.{node, inside, place_of, place_in, boxes_of, no_entry}
use Rattle.tree.proofs.ReadNodes.{read_entries}
use Rattle.tree.proofs.nodes.Nodes.choose_child.Goals as goal

pub returns : goal.returns
unfolding place_of
returns c =
    let w = read_entries c.args.self.now.places.items c.args.at.place c.index.result.now c.requires.sound.0 c.index.ensures _ c.entries-entries.ensures.entries in
    let e : c.choose-place.result ≡ place_of c.args.self.now.dims c.args.self.now.places.items c.args.at.height c.args.at.place c.args.clip =
    c.choose-place.ensures.place ∙ ap (λ x. chosen x (take c.args.self.now.dims c.args.clip.letters)) (c.boxes_of-boxes.ensures ∙ ap (boxes_of c.args.self.now.dims c.args.self.now.places.items c.args.at.height) w) in
    let l : c.choose-place.result < length c.entries-entries.result.now = omega (arith, c.choose-place.ensures.within, length-take {A = List ℕ} (length c.entries-entries.result.now) c.boxes_of-boxes.result) in
    record {
      place = subst (λ p. p < length (inside (node c.args.self.now.places.items c.args.at.place))) e (subst (λ es. c.choose-place.result < length es) w l);
      child = c.place.ensures ∙ ap (λ es. place_in (get_or es c.choose-place.result no_entry)) w ∙ ap (λ p. place_in (get_or (inside (node c.args.self.now.places.items c.args.at.place)) p no_entry)) e;
    }
