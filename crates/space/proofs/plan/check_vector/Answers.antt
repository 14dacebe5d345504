use Rattle.std.proofs.Common.{rules, leb, ◌+◌, cond, Some, sym, ap, ◌∙◌}
use Rattle.std.specs.Option.{option_map}
use Rattle.std.proofs.lemmas.Bool.{eq-eqb}
use Rattle.std.proofs.lemmas.Iterator.{YieldsList-from_slice, YieldsList-from_zip}
use Rattle.std.proofs.lemmas.Iterator.Search.{position_from_yields_List}
use Rattle.std.specs.List.{zip}
use Rattle.space.specs.declared.plan.ClipFault.TheVariants.{Dimensions, Letter}
use Rattle.space.specs.Plans.{letter_fault, unless_fault}
use Rattle.space.proofs.Faults.{letter_at, fault_at, first_told}
use Rattle.space.proofs.plan.check_vector.Goals as goal

pub returns : goal.returns
returns c =
    let s = c.args.sizes.now in let v = c.args.letters.now in
    first_told Letter _ _ _ c.map_or.ensures (λ i p. search rules)
    ∙ ap (λ o. unless_fault (option_map (λ k. Letter (k + 1)) o))
    (position_from_yields_List (λ p. leb p.1 p.0) c.position-fault.new.self _ _ c.position-fault.ensures.ran (YieldsList-from_zip (YieldsList-from_slice v cc) (YieldsList-from_slice s cc)) (λ x b q k. search rules))
    ∙ ap unless_fault (fault_at _ Letter 1 (zip v s) ∙ letter_at 1 s v c.if-letters-sizes.false ∙ sym (ap (λ b. cond b (letter_fault 1 s v) (Some Dimensions)) (eq-eqb _ _ c.if-letters-sizes.false)))
