use Rattle.std.proofs.Common.{◌≡◌, ℕ, ◌+◌, ◌*◌, take}
use Rattle.space.specs.Row.{stored_rows}
use Rattle.rules.specs.File.{number_bytes}
use Rattle.file.specs.Writes.{put}
use Rattle.file.proofs.write.write_numbers.Given as goal

abbrev pub invariant-loop-clip : goal.invariant-loop-clip
invariant-loop-clip l = record {
  written : (d : ℕ) → l.output ≡ put l.start (number_bytes (stored_rows d (take l.clip-index l.clips))) l.initial.output;
  place : l.at ≡ l.start + 4 * l.clip-index;
}
