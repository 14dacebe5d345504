use Rattle.std.proofs.Common.{vec_items}
use Rattle.scan.specs.Distances.{far_by}
use Rattle.measures.specs.Layers.{up_to}
use Rattle.rules.specs.Finds.{within}
use Rattle.scan.proofs.Scanned.{scanned_more, hits_done, told}
use Rattle.scan.proofs.within.Goals as goal

pub loop-clip-preserved : goal.loop-clip-preserved
loop-clip-preserved g c =
    let dist = within (far_by (g.M.Measure.distances c.args.measure.now) c.args.query.now) c.args.radius in
    let v = vec_items c.clip-item.result.letters in
    scanned_more dist c.args.clips.now c.args.slots.now c.loop-clip.slots c.loop-clip.found c.loop-clip.clip-index c.loop-clip.invariant
    c.loop-clip.auto.slots c.clip-item.result c.loop-clip-test.true c.clip-item.is
    c.up_to-distance.result (told (up_to c.args.radius) c.up_to-distance.result c.distance.result (g.M.Measure.distances c.args.measure.now c.args.query.now v) c.up_to-distance.ensures
    (told (g.M.Measure.distances c.args.measure.now c.args.query.now) c.distance.result c.deref.result.now v c.distance.ensures c.deref.ensures.value)) c.put_find-found.result c.put_find-found.new.slots
    c.put_find-found.ensures.count c.put_find-found.ensures.front c.put_find-found.ensures.back

pub returns : goal.returns
returns g c =
    hits_done (far_by (g.M.Measure.distances c.args.measure.now) c.args.query.now) c.args.radius c.args.clips.now c.args.slots.now
    c.loop-clip.slots c.loop-clip.found c.loop-clip.clip-index c.loop-clip.invariant c.loop-clip-test.false
