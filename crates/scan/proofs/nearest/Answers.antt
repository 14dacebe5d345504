use Rattle.std.proofs.Common.{min, vec_items, ap, ◌∙◌}
use Rattle.scan.specs.Distances.{far_by}
use Rattle.scan.proofs.Scanned.{scanned_more, nearest_done, told}
use Rattle.scan.proofs.nearest.Goals as goal

pub loop-clip-preserved : goal.loop-clip-preserved
loop-clip-preserved g c =
    let dist = far_by (g.M.Measure.distances c.args.measure.now) c.args.query.now in
    scanned_more dist c.args.clips.now c.args.slots.now c.loop-clip.slots c.loop-clip.found c.loop-clip.clip-index c.loop-clip.invariant
    c.loop-clip.auto.slots c.clip-item.result c.loop-clip-test.true c.clip-item.is
    c.distance-distance.result (told (g.M.Measure.distances c.args.measure.now c.args.query.now) c.distance-distance.result c.deref.result.now (vec_items c.clip-item.result.letters)
    c.distance-distance.ensures c.deref.ensures.value) c.put_find-found.result c.put_find-found.new.slots
    c.put_find-found.ensures.count c.put_find-found.ensures.front c.put_find-found.ensures.back

pub returns : goal.returns
returns g c =
    nearest_done (far_by (g.M.Measure.distances c.args.measure.now) c.args.query.now) c.args.clips.now c.args.slots.now c.loop-clip.slots
    c.loop-clip.found c.loop-clip.clip-index c.loop-clip.invariant c.loop-clip-test.false c.loop-clip.auto.slots c.min.result
    (c.min.ensures ∙ ap (min c.loop-clip.found) c.loop-clip.auto.slots)
