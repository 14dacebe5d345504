use Rattle.std.proofs.Common.{◌≡◌, ◌-◌, true, length, take, IfSome, ok_or, sym, ap, ◌∙◌, subst, rules}
use Rattle.space.specs.Boxes.{dimensions}
use Rattle.space.specs.Row.{stored_rows}
use Rattle.rules.specs.Rows.{rising}
use Rattle.rules.specs.Tree.{rows_in}
use Rattle.file.specs.Writes.{written, written_length, output_after}
use Rattle.refusals.specs.declared.refusal.Refusal.TheVariants as held
use Rattle.refusals.specs.declared.fault.StateFault.TheVariants.{Output}
use Rattle.refusals.specs.Refused.{refusal_of}
use Rattle.catalogue.specs.Reads.{SavedAs}
use Rattle.tree.specs.Seen.{plan_of, seen_index, tree_in}
use Rattle.catalogue.proofs.Readings.{all_listed, save_answer}
use Rattle.catalogue.proofs.reading.save_index.Goals as goal

pub returns : goal.returns
returns c =
    let x = c.args.index.now in
    let B = c.rising.new.out in
    let n = c.unwrap_or-n.result in
    let l = all_listed x (rising (rows_in (tree_in x))) _ B c.rising.result n c.rising.ensures (search rules) c.unwrap_or-n.ensures in
    let clips = take (n - 0) B in
    let axes : dimensions (length (plan_of x)) ≡ true = ap (λ p. dimensions (length p)) (sym c.plan.ensures.value) ∙ c.plan.ensures.axes in
    let room = length c.args.output.now in
    let output = c.args.output.now in
    let e = c.write_file.ensures in
    let r = c.write_file.result in
    let plan = c.plan.ensures.value in
    let a = save_answer x clips room l.1 axes r (e.value ∙ ap (λ p. written_length (length p) (length clips) room) plan)
    (subst (λ p. IfSome r (λ k. k ≡ length (written p (stored_rows (length p) clips)))) plan e.long) in
    let new = e.bytes ∙ ap (λ p. output_after p clips output r) plan in
    record {
      told = ap refusal_of c.ok_or.ensures.value ∙ a.0;
      bytes = subst (SavedAs (seen_index x) output c.write_file.new.output) (sym c.ok_or.ensures.value)
          (subst (λ b. SavedAs (seen_index x) output b (ok_or r (held.State Output))) (sym new) (a.1 output));
    }
