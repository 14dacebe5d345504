use Rattle.std.proofs.Common.{◌<◌, ◌≤◌, ◌⊎◌, arith, rules}
use Rattle.std.proofs.lemmas.Result.{err_from_is_err_and}
use Rattle.tree.proofs.Fitting.{fit_plan, fit_capacity, fit_table, fit_fine}
use Rattle.tree.proofs.starting.fit.Goals as goal

pub returns-in_err-check_plan : goal.returns-in_err-check_plan
returns-in_err-check_plan c =
    let p = err_from_is_err_and c.from_residual.result c.from_residual.ensures.1 in
    rw (p.1, p.2) (fit_plan c.args.plan.now c.args.capacity c.args.boxes _ c.in_err-check_plan.ensures)

pub returns-then-not-contains : goal.returns-then-not-contains
returns-then-not-contains c =
    let out : (c.args.capacity < 1) ⊎ (4096 < c.args.capacity) = search rules in
    fit_capacity c.args.plan.now c.args.capacity c.args.boxes c.in_ok-check_plan.ensures out

pub returns-then-boxes-max : goal.returns-then-boxes-max
returns-then-boxes-max c =
    let low : 1 ≤ c.args.capacity = search rules in let high : c.args.capacity ≤ 4096 = search rules in
    fit_table c.args.plan.now c.args.capacity c.args.boxes c.in_ok-check_plan.ensures low high (omega (arith, c.max.ensures))

pub returns : goal.returns
returns c =
    let low : 1 ≤ c.args.capacity = search rules in let high : c.args.capacity ≤ 4096 = search rules in
    fit_fine c.args.plan.now c.args.capacity c.args.boxes c.in_ok-check_plan.ensures low high (omega (arith, c.max.ensures))
