-- The commands that a program holds, as the lines say them.
use Rattle.std.specs.Prelude.{◌≡◌, Some, vec_items, Option, Result, MatchResult}
use Rattle.lines.specs.declared.fields.FieldsError.{FieldsError}
use Rattle.lines.specs.Faults.{Faulty}
use Rattle.pick.specs.declared.command.Command.{Command}
use Rattle.pick.specs.declared.command.Command.TheVariants.{Plan, List, Bar, CutOff, Nearest}
use Rattle.pick.specs.Said.{Said, plan, clip, bar, cut, near}

abbrev pub heard : Command → Said
heard (Plan sizes) = plan (vec_items sizes)
heard (List number letters) = clip number (vec_items letters)
heard (Bar dimension letter) = bar dimension letter
heard (CutOff limit) = cut limit
heard (Nearest count query) = near count (vec_items query)

-- the command is what is said, and a refusal to read it comes where nothing is said
abbrev pub Reads : Option Said → Result Command FieldsError → Type 0
Reads said r = MatchResult r (λ c. said ≡ Some (heard c)) (Faulty said)
