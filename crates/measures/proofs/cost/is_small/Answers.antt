use Rattle.std.proofs.Common.{rules, leb, ◌∙◌}
use Rattle.std.proofs.lemmas.Iterator.{YieldsList-from_slice}
use Rattle.std.proofs.lemmas.Iterator.Search.{all_from_yields_List}
use Rattle.measures.proofs.Lists.{small_all}
use Rattle.measures.proofs.cost.is_small.Goals as goal

pub returns : goal.returns
returns c =
    let v = c.args.letters.now in
    all_from_yields_List (λ l. leb l 63) c.all.new.self _ _ c.all.ensures.ran (YieldsList-from_slice v cc) (λ x b q k. search rules) ∙ small_all v
