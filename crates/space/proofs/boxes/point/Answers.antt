use Rattle.std.proofs.Common.{rules, ap, ◌∙◌}
use Rattle.space.specs.Boxes.{in_box}
use Rattle.space.proofs.Arounds.{pointed_is, in_point}
use Rattle.space.proofs.Rewrites.{points}
use Rattle.space.proofs.boxes.point.Goals as goal

pub returns : goal.returns
returns c =
    let old = c.args.sets.now in
    let vector = c.args.vector.now in
    let e = points _ (λ x l z r. search rules) old vector _ c.rewrite.ensures in
    record { value = e; around = λ n h. ap (in_box vector) (e ∙ pointed_is old vector n) ∙ in_point vector h }
