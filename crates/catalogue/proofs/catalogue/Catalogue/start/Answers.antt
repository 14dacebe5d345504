use Rattle.std.proofs.Common.{sym, subst}
use Rattle.tree.specs.Tables.{table_boxes}
use Rattle.catalogue.specs.Runs.{Started}
use Rattle.catalogue.proofs.Runnings.{start_leaves}
use Rattle.catalogue.proofs.catalogue.Catalogue.start.Goals as goal

pub returns : goal.returns
returns c =
    let boxes = table_boxes c.args.table in
    subst (λ o. Started c.args.plan.now c.args.capacity boxes (record { index = o })) (sym c.ok.ensures.value)
    (start_leaves c.args.plan.now c.args.capacity boxes c.start.result c.start.ensures.told c.start.ensures.made)
