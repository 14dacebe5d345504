use Rattle.std.proofs.Common.{◌+◌, ◌/◌, ◌^◌, [], drop, sym, ap, ◌∙◌, arith}
use Rattle.space.specs.Boxes.{joined}
use Rattle.rules.specs.Division.{group}
use Rattle.tree.proofs.Parts.{group_takes, group_passes}
use Rattle.tree.proofs.boxes.Boxes.group_box.Goals as goal
use Rattle.tree.proofs.boxes.Boxes.group_box.Goals.{then-in_code-second, else-in_code-second}

pub loop-i-preserved : goal.loop-i-preserved
loop-i-preserved c =
    let b = c.args.second in
    let code = c.args.code in
    let bs = c.args.self.now.sets.now in
    let i = c.loop-i.i in
    let rest = group c.args.second (c.args.code / 2 ^ (c.loop-i.i + 1)) (drop (c.loop-i.i + 1) c.args.self.now.sets.now) in
    elim c.if-in_code-second.branch [
      | then-in_code-second w ↦
          ap (λ x. joined x rest) (w.around-is ∙ w.join.ensures.value)
          ∙ ap (joined c.loop-i.around) (sym (group_takes b code bs i [] _ (omega arith) c.in_code.ensures w.if-in_code-second.true)) ∙ c.loop-i.invariant
      | else-in_code-second w ↦
          ap (λ x. joined x rest) w.around-is
          ∙ ap (joined c.loop-i.around) (sym (group_passes b code bs i [] _ (omega arith) c.in_code.ensures w.if-in_code-second.false)) ∙ c.loop-i.invariant
    ]
