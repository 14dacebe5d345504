use Rattle.tree.specs.Nodes.{no_entry}
use Rattle.std.proofs.Common.{◌+◌, ◌/◌, ◌^◌, [], ◌∷◌, ◌++◌, length, get_or, drop, sym, ap, ◌∙◌, arith}
use Rattle.std.proofs.lemmas.List.{append_assoc, length_push}
use Rattle.rules.specs.Division.{group}
use Rattle.tree.proofs.Parts.{group_takes, group_passes}
use Rattle.tree.proofs.division.group_of.Goals as goal
use Rattle.tree.proofs.division.group_of.Goals.{then-in_code-second, else-in_code-second}

pub loop-i-preserved : goal.loop-i-preserved
loop-i-preserved c =
    let b = c.args.second in
    let code = c.args.code in
    let es = c.args.entries.now in
    let i = c.loop-i.i in
    let out = c.loop-i.out in
    let e = get_or c.args.entries.now c.loop-i.i no_entry in
    let rest = group c.args.second (c.args.code / 2 ^ (c.loop-i.i + 1)) (drop (c.loop-i.i + 1) c.args.entries.now) in
    elim c.if-in_code-second.branch [
      | then-in_code-second w ↦ (
        omega (arith, ap length (w.out-is ∙ w.push.ensures), length_push c.loop-i.out e),
        ap (λ x. x ++ rest) (w.out-is ∙ w.push.ensures) ∙ append_assoc out (e ∷ []) rest
            ∙ ap (λ x. out ++ x) (sym (group_takes b code es i no_entry _ (omega arith) c.in_code.ensures w.if-in_code-second.true)) ∙ c.loop-i.invariant.1,
      )
      | else-in_code-second w ↦ (
        omega (arith, ap length w.out-is),
        ap (λ x. x ++ rest) w.out-is
            ∙ ap (λ x. out ++ x) (sym (group_passes b code es i no_entry _ (omega arith) c.in_code.ensures w.if-in_code-second.false)) ∙ c.loop-i.invariant.1,
      )
    ]
