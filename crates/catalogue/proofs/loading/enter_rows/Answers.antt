use Rattle.std.proofs.Common.{◌+◌, length, sym, ap, subst}
use Rattle.refusals.specs.Refused.{refusal_of}
use Rattle.catalogue.specs.Loads.{Loaded}
use Rattle.catalogue.proofs.Enterings.{load_none, load_row}
use Rattle.catalogue.proofs.loading.enter_rows.Goals as goal
use Rattle.catalogue.proofs.loading.enter_rows.Goals.{in-Some, in_default}

pub loop-i-preserved : goal.loop-i-preserved
loop-i-preserved c =
    let x = c.args.index.now in let file = c.args.file.now in let y = c.loop-i.index in
    elim c.match-row_at.branch [
      | in-Some w ↦ subst (λ z. Loaded x z file (c.loop-i.i + 1)) (sym w.index-is)
          (load_row x file c.requires.told c.args.n c.requires.rows y c.loop-i.i c.loop-i.invariant c.loop-i-test.true c.plan.result.now c.plan.ensures.value
          w.in-Some.clip w.in-Some.ensures _ (ap length w.plan-d.ensures.value) w.enter.new.self (refusal_of w.enter.result) w.enter.ensures)
      | in_default w ↦ absurd (load_none x file c.requires.told c.args.n c.requires.rows y c.loop-i.i c.loop-i.invariant c.loop-i-test.true c.plan.result.now c.plan.ensures.value w.in_default.ensures)
    ]
