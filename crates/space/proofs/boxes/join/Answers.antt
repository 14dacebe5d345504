use Rattle.std.proofs.Common.{rules, get_or, ap, ◌∙◌}
use Rattle.space.specs.Boxes.{has}
use Rattle.space.proofs.Arounds.{join_letters}
use Rattle.space.proofs.Rewrites.{joins}
use Rattle.space.proofs.boxes.join.Goals as goal

pub returns : goal.returns
returns c =
    let old = c.args.sets.now in
    let other = c.args.other.now in
    let e = joins _ (λ x y z r. search rules) old other _ c.rewrite.ensures in
    record { value = e; letters = λ j l h k. ap (λ s. has (get_or s j 0) l) e ∙ join_letters old other j l h k }
