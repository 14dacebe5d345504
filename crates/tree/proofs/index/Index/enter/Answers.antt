use Rattle.std.proofs.Common.{length, is_some, sym, ap, ◌∙◌, arith}
use Rattle.std.proofs.lemmas.Result.{err_from_is_err_and}
use Rattle.rules.specs.Tree.{rows_in}
use Rattle.space.specs.Plans.{vector_fault}
use Rattle.space.specs.Row.{Row}
use Rattle.rules.specs.Rows.{lists}
use Rattle.rules.specs.Register.{enters}
use Rattle.rules.specs.Enter.{entered}
use Rattle.tree.specs.Calls.{stored_or}
use Rattle.tree.specs.Seen.{plan_of, tree_in}
use Rattle.tree.proofs.Changes.{does_refused, does_done, stored_fine, stored_row_lem, enter_fault, enter_listed, enter_full, enter_fine}
use Rattle.tree.proofs.Wholes.{whole_of}
use Rattle.tree.proofs.index.Index.enter.Goals as goal

pub returns-in_err-clip : goal.returns-in_err-clip
returns-in_err-clip c =
    let x = c.args.self.now in
    let p = err_from_is_err_and c.from_residual.result c.from_residual.ensures.1 in
    rw (p.1, p.2) (does_refused x (enters c.args.number c.args.letters.now) _
    (enter_fault (plan_of x) x.capacity (rows_in (tree_in x)) c.args.number c.args.letters.now _
    (c.in_err-clip.ensures ∙ ap (λ v. stored_or v c.args.number c.args.letters.now) c.plan.ensures.value)))

pub returns-then-lists : goal.returns-then-lists
returns-then-lists c =
    let x = c.args.self.now in
    let f = stored_fine (plan_of x) c.args.number c.args.letters.now _ (c.in_ok-clip.ensures ∙ ap (λ v. stored_or v c.args.number c.args.letters.now) c.plan.ensures.value) in
    does_refused x (enters c.args.number c.args.letters.now) _ (enter_listed (plan_of x) x.capacity (rows_in (tree_in x)) c.args.number c.args.letters.now f.0 (sym c.if-lists.ensures))

pub returns-then-self : goal.returns-then-self
returns-then-self c =
    let x = c.args.self.now in
    let f = stored_fine (plan_of x) c.args.number c.args.letters.now _ (c.in_ok-clip.ensures ∙ ap (λ v. stored_or v c.args.number c.args.letters.now) c.plan.ensures.value) in
    does_refused x (enters c.args.number c.args.letters.now) _
    (enter_full (plan_of x) x.capacity (rows_in (tree_in x)) c.args.number c.args.letters.now f.0 (sym c.if-lists.ensures) (omega (arith, c.if-self.true, (whole_of x).count)))

pub enter_new-requires : goal.enter_new-requires
enter_new-requires c =
    let x = c.args.self.now in
    let w = whole_of x in
    let f = stored_fine (plan_of x) c.args.number c.args.letters.now _ (c.in_ok-clip.ensures ∙ ap (λ v. stored_or v c.args.number c.args.letters.now) c.plan.ensures.value) in
    let r = stored_row_lem (plan_of x) c.args.number c.args.letters.now _ w.stands.axes w.sizes f.0 f.1 in
    record {
      letters = r.0;
      new = ap (λ k. lists k.number (rows_in (tree_in x))) f.1 ∙ sym c.if-lists.ensures;
      proper = ap (λ (k : Row). is_some (vector_fault (plan_of x) k.letters)) r.1 ∙ f.2;
      room = omega (arith, c.if-self.false, w.count);
    }

pub returns : goal.returns
returns c =
    let x = c.args.self.now in
    let w = whole_of x in
    let f = stored_fine (plan_of x) c.args.number c.args.letters.now _ (c.in_ok-clip.ensures ∙ ap (λ v. stored_or v c.args.number c.args.letters.now) c.plan.ensures.value) in
    let r = stored_row_lem (plan_of x) c.args.number c.args.letters.now _ w.stands.axes w.sizes f.0 f.1 in
    does_done x c.enter_new.new.self (enters c.args.number c.args.letters.now)
    (enter_fine (plan_of x) x.capacity (rows_in (tree_in x)) c.args.number c.args.letters.now f.0 (sym c.if-lists.ensures) (omega (arith, c.if-self.false, w.count)))
    c.enter_new.ensures.stays (c.enter_new.ensures.tree ∙ ap (entered (length (plan_of x)) (tree_in x)) r.1)
