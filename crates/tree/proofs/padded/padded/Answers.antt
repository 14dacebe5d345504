use Rattle.std.proofs.Common.{◌++◌, ap₂}
use Rattle.std.proofs.lemmas.List.{drop-replicate}
use Rattle.tree.proofs.padded.padded.Goals as goal

pub returns : goal.returns
returns g c = ap₂ (λ x y. x ++ y) c.copy_from_slice.ensures.after (drop-replicate _ _ _)
