use Rattle.std.proofs.Common.{◌≤◌, arith}
use Rattle.measures.specs.Costs.{costs, vector_and_box}
use Rattle.measures.specs.Sums.{vector_and_box_parts, small_at, summed_more, summed_fits, summed_all, some_given}
use Rattle.measures.proofs.cost.box_cost.Goals as goal

pub set_cost-sum-requires : goal.set_cost-sum-requires
set_cost-sum-requires g c =
    let q = c.args.query.now in
    let v = c.args.sets.now in
    let i = c.loop-i.i in
    let p = vector_and_box_parts q v c.if-not-are_vector_and_box.ensures in
    (omega arith, small_at q i p.2)

pub overflow_add-sum : goal.overflow_add-sum
overflow_add-sum g c =
    let q = c.args.query.now in
    let v = c.args.sets.now in
    let i = c.loop-i.i in
    let p = vector_and_box_parts q v c.if-not-are_vector_and_box.ensures in
    let x : c.set_cost-sum.result ≤ 40960 = rw c.set_cost-sum.ensures ((g.met.C.Cost.rule c.args.cost.now).sets_most i _ _) in
    let fits = summed_fits (g.C.Cost.set_costs c.args.cost.now) q v i c.loop-i.sum c.loop-i.invariant c.set_cost-sum.result (omega arith) x in
    omega arith

pub loop-i-preserved : goal.loop-i-preserved
loop-i-preserved g c =
    let q = c.args.query.now in
    let v = c.args.sets.now in
    let i = c.loop-i.i in
    let p = vector_and_box_parts q v c.if-not-are_vector_and_box.ensures in
    let x : c.set_cost-sum.result ≤ 40960 = rw c.set_cost-sum.ensures ((g.met.C.Cost.rule c.args.cost.now).sets_most i _ _) in
    summed_more (g.C.Cost.set_costs c.args.cost.now) q v i c.loop-i.sum c.loop-i.invariant c.set_cost-sum.result (omega arith) (omega arith) c.set_cost-sum.ensures x

pub returns : goal.returns
returns g c =
    let q = c.args.query.now in
    let v = c.args.sets.now in
    let cost = g.C.Cost.set_costs c.args.cost.now in
    let t = c.if-not-are_vector_and_box.ensures in
    let p = vector_and_box_parts q v t in
    some_given (vector_and_box q v) c.loop-i.sum (costs cost 0 q v) t (summed_all cost q v c.loop-i.i c.loop-i.sum c.loop-i.invariant (omega arith) (omega arith))
