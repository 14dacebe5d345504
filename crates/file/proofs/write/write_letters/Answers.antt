use Rattle.std.proofs.Common.{arith}
use Rattle.file.proofs.Writings.{letter_step, letter_long}
use Rattle.file.proofs.write.write_letters.Goals as goal

pub loop-clip-preserved : goal.loop-clip-preserved
loop-clip-preserved c =
    let clips = c.args.clips.now in
    let i = c.loop-clip.clip-index in
    let v = c.letters_of.ensures.value in
    let long = c.loop-clip.invariant.long in
    record {
      written = letter_step c.args.d clips i c.loop-clip-test.true c.args.start c.loop-clip.at c.args.output.now c.loop-clip.output _ _ (omega arith)
          c.write_at-at.ensures.bytes v long c.loop-clip.invariant.place c.loop-clip.invariant.written;
      long = letter_long c.args.d clips i c.loop-clip-test.true c.args.start c.loop-clip.at c.args.output.now c.loop-clip.output _ _ (omega arith)
          c.write_at-at.ensures.bytes v long c.letters_of.ensures.long;
      place = grind arith;
    }
