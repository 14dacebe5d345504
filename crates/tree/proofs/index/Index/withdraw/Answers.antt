use Rattle.std.proofs.Common.{length, sym, arith}
use Rattle.rules.specs.Tree.{rows_in}
use Rattle.rules.specs.Register.{withdraws}
use Rattle.tree.specs.Seen.{tree_in}
use Rattle.tree.proofs.Changes.{does_done, withdraw_fine}
use Rattle.tree.proofs.Wholes.{whole_of}
use Rattle.tree.proofs.index.Index.withdraw.Goals as goal

pub returns : goal.returns
returns c =
    let x = c.args.self.now in
    does_done x c.withdraw_one.new.self (withdraws c.args.number (length c.args.worklist.now))
    (withdraw_fine (rows_in (tree_in x)) c.args.number (length c.args.worklist.now) c.if-number-eq0.false (sym c.if-not-lists.ensures) (omega (arith, c.if-worklist-self.false, (whole_of x).count)))
    c.withdraw_one.ensures.stays c.withdraw_one.ensures.tree
