use Rattle.std.proofs.Common.{◌≡◌, ◌++◌, drop, None, vec_items}
use Rattle.std.specs.Option.{option_map}
use Rattle.lines.specs.Fields.{fields_from}
use Rattle.lines.proofs.fields.read_spaced.Given as goal

-- the fields so far, and those of what is left, are the fields
abbrev pub invariant-loop-byte : goal.invariant-loop-byte
invariant-loop-byte l = option_map (λ ys. vec_items l.fields ++ ys) (fields_from l.value (drop l.byte-index l.text)) ≡ fields_from None l.text
