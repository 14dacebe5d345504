use Rattle.std.proofs.Common.{◌∙◌, arith}
use Rattle.file.proofs.Writings.{number_step, four_apart}
use Rattle.file.proofs.write.write_numbers.Goals as goal

pub loop-clip-preserved : goal.loop-clip-preserved
loop-clip-preserved c = record {
  written = λ d.
      number_step d c.args.clips.now c.loop-clip.clip-index c.loop-clip-test.true c.args.start c.loop-clip.at c.args.output.now c.loop-clip.output _ _
      (omega arith) c.write_at-at.ensures.bytes c.loop-clip.invariant.place (c.loop-clip.invariant.written d) (c.to_le_bytes.ensures ∙ four_apart _);
  place = omega arith;
}
