use Rattle.std.proofs.Common.{◌≡◌, ◌+◌, ◌*◌, length, take}
use Rattle.space.specs.Row.{stored_rows}
use Rattle.rules.specs.File.{letter_bytes}
use Rattle.file.specs.Writes.{put}
use Rattle.file.proofs.write.write_letters.Given as goal

abbrev pub invariant-loop-clip : goal.invariant-loop-clip
invariant-loop-clip l = record {
  written : l.output ≡ put l.start (letter_bytes (stored_rows l.d (take l.clip-index l.clips))) l.initial.output;
  long : length (letter_bytes (stored_rows l.d (take l.clip-index l.clips))) ≡ l.d * l.clip-index;
  place : l.at ≡ l.start + l.d * l.clip-index;
}
