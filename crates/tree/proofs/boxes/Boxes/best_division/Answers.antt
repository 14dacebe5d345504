use Rattle.std.proofs.Common.{◌≡◌, map, take, refl, ap, ◌∙◌, rules}
use Rattle.std.proofs.lemmas.Iterator.{YieldsList-from_map_by, YieldsList-from_range}
use Rattle.std.proofs.lemmas.Iterator.Consumers.{YieldsList-at, YieldsList-from_filter, reduce_by_from_yields_List}
use Rattle.tree.specs.declared.division.Parting.{Parting}
use Rattle.rules.specs.Choice.{Score}
use Rattle.rules.specs.Division.{divides, parting}
use Rattle.tree.proofs.Least.{best_reduced, lesser, picks_lesser, some_from_map}
use Rattle.tree.proofs.boxes.Boxes.best_division.Goals as goal

abbrev score : Parting → Score
score p = (p.common, p.areas, p.code)

pub returns : goal.returns
returns c =
    let e = reduce_by_from_yields_List _ lesser _ _ (picks_lesser score) c.min.ensures.ran
    (YieldsList-from_map_by _ score (parting c.args.self.now.dims (map (take c.args.self.now.dims) c.args.self.now.sets.now))
    (YieldsList-at c.map.ensures.source (YieldsList-from_filter _ divides
    (YieldsList-at c.filter.ensures.source (YieldsList-from_range 0 512 512 refl refl)) c.filter.ensures.closure (λ x r q k. (search rules, search rules))))
    c.map.ensures.closure (λ x r q k. (search rules, search rules))) in
    let s = some_from_map score c.min.result _ (e ∙ best_reduced c.args.self.now.dims (map (take c.args.self.now.dims) c.args.self.now.sets.now)) in
    let m = rw s.1 at c.map_or.ensures in
    let r : c.map_or.result ≡ s.0.code = search rules in
    r ∙ ap (λ (x : Score). x.2) s.2
