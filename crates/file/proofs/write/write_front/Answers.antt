use Rattle.std.proofs.Common.{arith}
use Rattle.file.proofs.Writings.{front_put}
use Rattle.file.proofs.write.write_front.Goals as goal

pub returns-clause-bytes : goal.returns-clause-bytes
returns-clause-bytes c =
    front_put c.args.plan.now _ _ c.args.output.now _ _ _ _ c.write_at-announced.result c.write_at-sizes.ensures.bytes c.write_at-sizes.ensures.end c.write_at-announced.ensures.bytes
    (omega arith) c.write_at.ensures.bytes c.to_le_bytes.ensures
