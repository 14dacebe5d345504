-- What a refusal to read a text says, of what there is to read in it.
use Rattle.std.specs.Prelude.{◌≡◌, None, Option}
use Rattle.lines.specs.declared.fields.FieldsError.{FieldsError}
use Rattle.lines.specs.declared.fields.FieldsError.TheVariants.{Malformed, Memory}

-- there is nothing to read in a malformed text; want of memory says nothing of the text
abbrev pub Faulty : {X : Type 0} → Option X → FieldsError → Type 0
Faulty read Malformed = read ≡ None
Faulty read Memory = Unit {0}
