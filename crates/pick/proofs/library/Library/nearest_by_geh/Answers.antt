use Rattle.std.proofs.Common.{vec_items, ap, ◌∙◌}
use Rattle.std.proofs.lemmas.Result.{IfOk-weaker}
use Rattle.pick.proofs.Findings.{geh_graded}
use Rattle.pick.proofs.library.Library.nearest_by_geh.Goals as goal

pub returns : goal.returns
returns c =
    let self = c.args.self.now in
    let held = c.new-geh.result.count in
    let e = geh_graded (vec_items self.plan) c.deref.result.now c.args.query.now (vec_items self.clips) c.deref-2.result.now c.deref-3.result.now
    c.in-Some.letters held c.args.count (vec_items c.in_ok-finds.finds) c.deref-4.result.now
    c.deref.ensures.value c.deref-2.ensures.value c.deref-3.ensures.value c.deref-4.ensures.value (ap (λ g. g.count) c.new-geh.ensures)
    c.in-Some.ensures.1 c.in_ok-finds.ensures in
    IfOk-weaker c.grade_all.result _ _ (λ v h. h ∙ e) c.grade_all.ensures
