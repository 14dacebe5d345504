-- How finds read.
use Rattle.std.specs.Prelude.{ℕ, List, ◌++◌, codes}
use Rattle.std.specs.Fmt.{decimal}
use Rattle.ranked.specs.declared.find.Find.{Find}

-- the clip's number, and how far it lies: `clip 7 at 3`
abbrev pub find_text : Find → List ℕ
find_text f = codes "clip " ++ (decimal f.clip ++ (codes " at " ++ decimal f.distance))
