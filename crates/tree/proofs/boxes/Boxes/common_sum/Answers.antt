use Rattle.std.proofs.Common.{◌≡◌, take, sum_by, ◌∙◌, rules}
use Rattle.space.specs.Boxes.{common}
use Rattle.tree.proofs.Choosing.{commons_summed}
use Rattle.tree.proofs.boxes.Boxes.common_sum.Goals as goal

pub returns : goal.returns
returns c =
    let d = c.args.self.now.dims in
    let b = take c.args.self.now.dims c.args.b in
    let e : c.sum.result ≡ sum_by (λ x. common (take c.args.self.now.dims c.args.b) (take c.args.self.now.dims x)) c.args.self.now.sets.now = search rules in
    e ∙ commons_summed d b c.args.self.now.sets.now
