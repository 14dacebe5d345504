use Rattle.std.proofs.Common.{◌≤◌, arith}
use Rattle.measures.specs.Costs.{costs, vectors}
use Rattle.measures.specs.Sums.{vectors_parts, small_at, summed_more, summed_fits, summed_all, some_given}
use Rattle.measures.proofs.cost.vector_cost.Goals as goal

pub letter_cost-sum-requires : goal.letter_cost-sum-requires
letter_cost-sum-requires g c =
    let q = c.args.query.now in
    let v = c.args.vector.now in
    let i = c.loop-i.i in
    let p = vectors_parts q v c.if-not-are_vectors.ensures in
    (omega arith, (small_at q i p.2, small_at v i p.3))

pub overflow_add-sum : goal.overflow_add-sum
overflow_add-sum g c =
    let q = c.args.query.now in
    let v = c.args.vector.now in
    let i = c.loop-i.i in
    let p = vectors_parts q v c.if-not-are_vectors.ensures in
    let x : c.letter_cost-sum.result ≤ 40960 = rw c.letter_cost-sum.ensures ((g.met.C.Cost.rule c.args.cost.now).letters_most i _ _) in
    let fits = summed_fits (g.C.Cost.letter_costs c.args.cost.now) q v i c.loop-i.sum c.loop-i.invariant c.letter_cost-sum.result (omega arith) x in
    omega arith

pub loop-i-preserved : goal.loop-i-preserved
loop-i-preserved g c =
    let q = c.args.query.now in
    let v = c.args.vector.now in
    let i = c.loop-i.i in
    let p = vectors_parts q v c.if-not-are_vectors.ensures in
    let x : c.letter_cost-sum.result ≤ 40960 = rw c.letter_cost-sum.ensures ((g.met.C.Cost.rule c.args.cost.now).letters_most i _ _) in
    summed_more (g.C.Cost.letter_costs c.args.cost.now) q v i c.loop-i.sum c.loop-i.invariant c.letter_cost-sum.result (omega arith) (omega arith) c.letter_cost-sum.ensures x

pub returns : goal.returns
returns g c =
    let q = c.args.query.now in
    let v = c.args.vector.now in
    let cost = g.C.Cost.letter_costs c.args.cost.now in
    let t = c.if-not-are_vectors.ensures in
    let p = vectors_parts q v t in
    some_given (vectors q v) c.loop-i.sum (costs cost 0 q v) t (summed_all cost q v c.loop-i.i c.loop-i.sum c.loop-i.invariant (omega arith) (omega arith))
