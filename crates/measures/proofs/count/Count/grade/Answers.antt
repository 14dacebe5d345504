use Rattle.std.proofs.Common.{◌*◌, ◌≤◌, mul-le-mul, arith}
use Rattle.measures.proofs.count.Count.grade.Goals as goal

pub nonzero_div-result : goal.nonzero_div-result
nonzero_div-result c =
    let d = c.args.self.now.dimensions in
    let p : 1 * 1 ≤ d * c.args.self.now.total = mul-le-mul c.args.self.now.least c.args.self.now.some in
    omega arith
