use Rattle.std.proofs.Common.{◌≡◌, take, drop, vec_items}
use Rattle.pick.specs.Said.{all_bytes}
use Rattle.pick.proofs.command.read_bytes.Given as goal

abbrev pub invariant-loop-field : goal.invariant-loop-field
invariant-loop-field l =
    (vec_items l.bytes ≡ take l.field-index l.fields) × (all_bytes (drop l.field-index l.fields) ≡ all_bytes l.fields)
