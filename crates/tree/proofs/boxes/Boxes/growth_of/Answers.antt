use Rattle.std.proofs.Common.{◌≡◌, ℕ, ◌-◌, ◌<◌, List, [], map, length, get_or, take, sym, refl, ap, ◌∙◌, arith}
use Rattle.std.proofs.lemmas.List.{get_or-map, length-map}
use Rattle.space.specs.Boxes.{common, join, area, point}
use Rattle.rules.specs.Choice.{commons, Score, growth}
use Rattle.tree.proofs.Cuts.{take_join, take_point}
use Rattle.tree.proofs.Choosing.{growth_from}
use Rattle.tree.proofs.boxes.Boxes.growth_of.Goals as goal

-- the same over plain values
grown : (d i : ℕ) (bs : List (List ℕ)) (v pt b g : List ℕ) (r0 r1 more kept wider a sg sb og ob : ℕ)
    → i < length bs → pt ≡ point v → b ≡ get_or bs i [] → g ≡ join b pt
    → r0 ≡ more - kept → r1 ≡ wider - a → more ≡ sg - og → kept ≡ sb - ob
    → sg ≡ commons (take d g) (map (take d) bs) → og ≡ common (take d g) (take d b)
    → sb ≡ commons (take d b) (map (take d) bs) → ob ≡ common (take d b) (take d b)
    → a ≡ area (take d b) → wider ≡ area (take d g)
    → ◌≡◌ {A = Score} (r0, r1, a) (growth (map (take d) bs) (take d v) i)
grown d i bs v pt b g r0 r1 more kept wider a sg sb og ob l ep eb eg e0 e1 em ek esg eog esb eob ea ew =
    let cut : take d g ≡ join (take d b) (point (take d v)) = ap (take d) eg ∙ take_join d b pt ∙ ap (join (take d b)) (ap (take d) ep ∙ take_point d v) in
    let q = growth_from (take d v) (map (take d) bs) i (take d g) (take d b) (omega (arith, length-map bs (take {A = ℕ} d))) (ap (take d) eb ∙ sym (get_or-map (take d) bs i [] [] l)) cut in
    let p : ◌≡◌ {A = Score} (r0, r1, a) ((commons (take d g) (map (take d) bs) - common (take d g) (take d b)) - (commons (take d b) (map (take d) bs) - common (take d b) (take d b)), area (take d g) - area (take d b), area (take d b)) = cc in
    p ∙ q

pub returns-clause-score : goal.returns-clause-score
returns-clause-score c =
    sym (grown c.args.self.now.dims c.args.place c.args.self.now.sets.now c.args.letters c.point_of.result (get_or c.args.self.now.sets.now c.args.place []) c.union_of-g.result
    _ _ c.saturating_sub-more.result c.saturating_sub-kept.result c.area_of.result c.area_of-before.result c.common_sum.result c.common_sum-2.result c.common_of.result c.common_of-2.result
    (omega arith) c.point_of.ensures refl c.union_of-g.ensures
    c.saturating_sub.ensures c.saturating_sub-2.ensures c.saturating_sub-more.ensures c.saturating_sub-kept.ensures
    c.common_sum.ensures c.common_of.ensures.value c.common_sum-2.ensures c.common_of-2.ensures.value c.area_of-before.ensures.value c.area_of.ensures.value)
