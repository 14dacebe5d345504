use Rattle.std.proofs.Common.{◌≡◌, ℕ, length, map, take, refl, ap, ◌∙◌, arith, rules}
use Rattle.std.proofs.lemmas.Iterator.{YieldsList-from_map_by, YieldsList-from_range}
use Rattle.std.proofs.lemmas.Iterator.Consumers.{YieldsList-at, reduce_by_from_yields_List}
use Rattle.std.proofs.lemmas.List.{length-map}
use Rattle.tree.specs.declared.choice.Growth.{Growth}
use Rattle.rules.specs.Choice.{first_least, growth}
use Rattle.tree.proofs.Least.{Placed, first_of, least_reduced, picks_first, some_from_map}
use Rattle.tree.proofs.boxes.Boxes.choose.Goals as goal

abbrev placed : Growth → Placed
placed g = ((g.common, g.area, g.before), g.place)

pub returns-clause-place : goal.returns-clause-place
returns-clause-place c =
    let score = growth (map (take c.args.self.now.dims) c.args.self.now.sets.now) (take c.args.self.now.dims c.args.letters) in
    let n = length c.args.self.now.sets.now in
    let e = reduce_by_from_yields_List _ first_of _ _ (picks_first placed) c.min.ensures.ran
    (YieldsList-from_map_by _ placed (λ i. (growth (map (take c.args.self.now.dims) c.args.self.now.sets.now) (take c.args.self.now.dims c.args.letters) i, i))
    (YieldsList-at c.map.ensures.source (YieldsList-from_range 0 n n refl (omega arith))) c.map.ensures.closure (λ x r q k. (search rules, search rules))) in
    let s = some_from_map placed c.min.result _ (e ∙ least_reduced score n c.requires) in
    let m = rw s.1 at c.map_or.ensures in
    let r : c.map_or.result ≡ s.0.place = search rules in
    r ∙ ap (λ (x : Placed). x.1) s.2 ∙ ap (first_least score) (omega (arith, length-map c.args.self.now.sets.now (take {A = ℕ} c.args.self.now.dims)))
