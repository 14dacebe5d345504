use Rattle.std.proofs.Common.{rules, ◌∙◌}
use Rattle.std.proofs.lemmas.Iterator.{YieldsList-from_slice, YieldsList-from_zip}
use Rattle.std.proofs.lemmas.Iterator.Search.{any_from_yields_List}
use Rattle.space.specs.Boxes.{has}
use Rattle.measures.proofs.Lists.{barred_any}
use Rattle.measures.proofs.bar.has_barred.Goals as goal

pub returns : goal.returns
returns c =
    let v = c.args.vector.now in let bars = c.args.bars.now in
    any_from_yields_List (λ p. has p.1 p.0) c.any.new.self _ _ c.any.ensures.ran (YieldsList-from_zip (YieldsList-from_slice v cc) (YieldsList-from_slice bars cc)) (λ x b q k. search rules)
    ∙ barred_any bars v
