use Rattle.std.proofs.Common.{◌+◌, ◌-◌, ◌∙◌, arith, length-set}
use Rattle.tree.proofs.Packs.{unpack_step}
use Rattle.tree.proofs.aside.unpacked.Goals as goal

pub loop-letter-preserved : goal.loop-letter-preserved
loop-letter-preserved c =
    let i = c.loop-letter.letter-index in (
      length-set _ _ _ ∙ c.loop-letter.invariant.0,
      unpack_step c.loop-letter.rest i (10 - i) (10 - (i + 1)) c.loop-letter.letter-items _ (omega arith) (omega arith) c.loop-letter.invariant.1,
    )
