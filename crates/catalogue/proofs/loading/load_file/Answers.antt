use Rattle.std.proofs.Common.{sym, ap, ◌∙◌, arith}
use Rattle.std.proofs.lemmas.Result.{err_from_is_err_and}
use Rattle.rules.specs.Register.{loads}
use Rattle.rules.specs.Tree.{rows_in}
use Rattle.file.specs.Checked.{checked}
use Rattle.file.proofs.Refusing.{checked_rows}
use Rattle.tree.specs.Seen.{plan_of, tree_in}
use Rattle.tree.proofs.Changes.{does_refused, does_done}
use Rattle.catalogue.proofs.Enterings.{load_fault, load_full, load_filled, load_fine, load_end}
use Rattle.catalogue.proofs.loading.load_file.Goals as goal

pub returns-in_err-n-clause-does : goal.returns-in_err-n-clause-does
returns-in_err-n-clause-does c =
    let x = c.args.index.now in let file = c.args.file.now in
    let p = err_from_is_err_and c.from_residual.result c.from_residual.ensures.1 in
    rw (p.1, p.2) (does_refused x (loads file) _ (load_fault (plan_of x) x.capacity (rows_in (tree_in x)) file _ (c.in_err-n.ensures ∙ ap (λ v. checked v file) c.plan.ensures.value)))

pub returns-then-n-capacity-clause-does : goal.returns-then-n-capacity-clause-does
returns-then-n-capacity-clause-does c =
    let x = c.args.index.now in let file = c.args.file.now in
    does_refused x (loads file) _ (load_full (plan_of x) x.capacity (rows_in (tree_in x)) file c.in_ok-n.n (c.in_ok-n.ensures ∙ ap (λ v. checked v file) c.plan.ensures.value) (omega (arith, c.if-n-capacity.true, c.capacity.ensures)))

pub returns-then-len-ne0-clause-does : goal.returns-then-len-ne0-clause-does
returns-then-len-ne0-clause-does c =
    let x = c.args.index.now in let file = c.args.file.now in
    does_refused x (loads file) _
    (load_filled (plan_of x) x.capacity (rows_in (tree_in x)) file c.in_ok-n.n (c.in_ok-n.ensures ∙ ap (λ v. checked v file) c.plan.ensures.value) (omega (arith, c.if-n-capacity.false, c.capacity.ensures))
    (λ e. c.if-len-ne0.true (c.len.ensures ∙ e)))

pub enter_rows-requires-clause-told : goal.enter_rows-requires-clause-told
enter_rows-requires-clause-told c =
    let x = c.args.index.now in let file = c.args.file.now in
    sym (load_fine (plan_of x) x.capacity (rows_in (tree_in x)) file c.in_ok-n.n (c.in_ok-n.ensures ∙ ap (λ v. checked v file) c.plan.ensures.value) (omega (arith, c.if-n-capacity.false, c.capacity.ensures)) (sym c.len.ensures ∙ c.if-len-ne0.false))

pub returns-clause-does : goal.returns-clause-does
returns-clause-does c =
    let x = c.args.index.now in let file = c.args.file.now in
    let ok = c.in_ok-n.ensures ∙ ap (λ v. checked v file) c.plan.ensures.value in
    let fine = load_fine (plan_of x) x.capacity (rows_in (tree_in x)) file c.in_ok-n.n ok (omega (arith, c.if-n-capacity.false, c.capacity.ensures)) (sym c.len.ensures ∙ c.if-len-ne0.false) in
    let many = checked_rows (plan_of x) file c.in_ok-n.n (sym ok) in
    does_done x c.enter_rows.new.index (loads file) fine c.enter_rows.ensures.stays (load_end x file (sym fine) c.enter_rows.new.index c.in_ok-n.n many.1 c.enter_rows.ensures)

pub returns-clause-rows : goal.returns-clause-rows
returns-clause-rows c =
    let x = c.args.index.now in let file = c.args.file.now in
    sym (checked_rows (plan_of x) file c.in_ok-n.n (sym (c.in_ok-n.ensures ∙ ap (λ v. checked v file) c.plan.ensures.value))).1
