use Rattle.std.proofs.Common.{◌≡◌, length, arith}
use Rattle.std.proofs.lemmas.Grind.{common_steps}
use Rattle.file.proofs.Cuttings.{cut, two_bytes}
use Rattle.file.proofs.parts.cut_rows.Goals as goal

pub returns-in-Equal : goal.returns-in-Equal
returns-in-Equal c =
    let rest = c.args.rest.now in
    let n = c.from-count.result in
    let s = c.in_ok-announced.rows.now in
    let m : length c.as_chunks.result.0.now ≡ n = omega arith in
    cut c.args.d n rest s _ _ (grind (arith, common_steps)) (grind (arith, common_steps)) (grind (arith, common_steps, two_bytes))
    (grind (arith, common_steps)) m (grind (arith, common_steps)) c.split_at.ensures.back
