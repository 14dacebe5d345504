use Rattle.std.proofs.Common.{◌≡◌, ◌-◌, length, take, None, Some, ap, ◌∙◌, rules}
use Rattle.space.specs.Row.{stored_rows}
use Rattle.rules.specs.Tree.{rows_in}
use Rattle.refusals.specs.Refused.{refusal_of}
use Rattle.rules.specs.Refusals.{refused_at}
use Rattle.tree.specs.Seen.{tree_in}
use Rattle.catalogue.proofs.Readings.{all_listed, count_none}
use Rattle.catalogue.proofs.reading.count_index.Goals as goal

pub returns-in_err-count-clause-told : goal.returns-in_err-count-clause-told
returns-in_err-count-clause-told c =
    let x = c.args.index.now in
    let B = c.clips.new.out in
    let n = c.unwrap_or-n.result in
    let plan = c.plan.result.now in
    let l = all_listed x (rows_in (tree_in x)) _ B c.clips.result n c.clips.ensures (search rules) c.unwrap_or-n.ensures in
    let none : c.of.result ≡ None = search rules in
    let q = rw none at c.of.ensures in
    let e : refusal_of c.from_residual.result ≡ Some (refused_at 26 0 0) = search rules in
    e ∙ count_none x plan (take (n - 0) B) c.plan.ensures.value (ap (λ p. stored_rows (length p) (take (n - 0) B)) c.plan.ensures.value ∙ l.1) q
