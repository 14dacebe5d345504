use Rattle.std.proofs.Common.{rules, ◌∙◌, sym}
use Rattle.std.proofs.lemmas.Bool.{ne_eqb}
use Rattle.std.proofs.lemmas.Iterator.{YieldsList-from_slice, YieldsList-from_zip}
use Rattle.std.proofs.lemmas.Iterator.Search.{all_from_yields_List}
use Rattle.space.specs.Boxes.{has}
use Rattle.space.proofs.Sets.{in_zip, in_unlike}
use Rattle.space.proofs.boxes.contains.Goals as goal

pub returns-then-vector-sets : goal.returns-then-vector-sets
returns-then-vector-sets c =
    let v = c.args.vector.now in let b = c.args.sets.now in
    all_from_yields_List (λ p. has p.1 p.0) c.all.new.self _ _ c.all.ensures.ran (YieldsList-from_zip (YieldsList-from_slice v cc) (YieldsList-from_slice b cc)) (λ x b q k. search rules)
    ∙ in_zip v b c.if-vector-sets.true

pub returns-else-vector-sets : goal.returns-else-vector-sets
returns-else-vector-sets c = ne_eqb _ _ c.if-vector-sets.false ∙ sym (in_unlike c.args.vector.now c.args.sets.now c.if-vector-sets.false)
