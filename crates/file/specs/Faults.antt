-- The faults of a file as numbered refusals.
use Rattle.std.specs.Prelude.{ℕ}
use Rattle.space.specs.Plans.{clip_number, clip_place}
use Rattle.rules.specs.Refusals.{Refusal, refused_at}
use Rattle.file.specs.declared.fault.FileFault.{FileFault}
use Rattle.file.specs.declared.fault.FileFault.TheVariants.{Plan, Short, Long, Row}

-- the number of the refusal, the dimension at fault and the row at fault, both from 1, or 0
abbrev pub file_number : FileFault → ℕ
file_number Plan = 4
file_number Short = 5
file_number Long = 6
file_number (Row f) = clip_number f.fault

abbrev pub file_place : FileFault → ℕ
file_place Plan = 0
file_place Short = 0
file_place Long = 0
file_place (Row f) = clip_place f.fault

abbrev pub file_row : FileFault → ℕ
file_row Plan = 0
file_row Short = 0
file_row Long = 0
file_row (Row f) = f.row

abbrev pub file_refusal : FileFault → Refusal
file_refusal f = refused_at (file_number f) (file_place f) (file_row f)
