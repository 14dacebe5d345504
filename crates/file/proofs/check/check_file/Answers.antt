use Rattle.std.proofs.Common.{Err, sym, ap, ◌∙◌}
use Rattle.std.proofs.lemmas.Result.{err_from_is_err_and}
use Rattle.space.proofs.Faults.{fault_none, fault_some}
use Rattle.file.proofs.Checks.{number_fault_lem, letter_fault}
use Rattle.file.proofs.check.check_file.Goals as goal

pub returns-in_err-check_numbers : goal.returns-in_err-check_numbers
returns-in_err-check_numbers c =
    let p = err_from_is_err_and c.from_residual-in_err-check_numbers.result c.from_residual-in_err-check_numbers.ensures.1 in
    p.1 ∙ ap Err p.2
    ∙ sym (number_fault_lem c.args.plan.now c.args.file.now _ c.in_ok-rest.ensures _ _ c.in_ok-rows.ensures _ (fault_some _ c.in_err-check_numbers.ensures))

pub returns-in_err-check_letters : goal.returns-in_err-check_letters
returns-in_err-check_letters c =
    let p = err_from_is_err_and c.from_residual-in_err-check_letters.result c.from_residual-in_err-check_letters.ensures.1 in
    p.1 ∙ ap Err p.2
    ∙ sym (letter_fault c.args.plan.now c.args.file.now _ c.in_ok-rest.ensures _ _ c.in_ok-rows.ensures _
    (fault_none _ c.in_ok-check_numbers.ensures) (fault_some _ c.in_err-check_letters.ensures))
