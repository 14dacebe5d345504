use Rattle.std.proofs.Common.{arith}
use Rattle.ranked.proofs.Steps.{moved_up}
use Rattle.ranked.proofs.list.put.Goals as goal

pub returns-then-at-end-clause-front : goal.returns-then-at-end-clause-front
returns-then-at-end-clause-front g c =
    let copied = c.copy_within.ensures.by_index in
    moved_up c.args.list.now c.copy_within.new.self c.args.at c.args.end c.args.item c.if-at-end.true (omega arith) c.copy_within.ensures.len copied.0 copied.1
