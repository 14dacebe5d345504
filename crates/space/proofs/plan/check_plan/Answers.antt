use Rattle.std.proofs.Common.{rules, arith, true, cond, ltb, ◌||◌, ◌≡◌, ◌+◌, length, Some, sym, ap, ◌∙◌}
use Rattle.std.specs.Option.{option_map}
use Rattle.std.proofs.lemmas.Bool.Decides.{nat_tests}
use Rattle.std.proofs.lemmas.Iterator.{YieldsList-from_slice}
use Rattle.std.proofs.lemmas.Iterator.Search.{position_from_yields_List}
use Rattle.space.specs.Boxes.{dimensions}
use Rattle.space.specs.declared.plan.PlanFault.TheVariants.{Dimensions, Size}
use Rattle.space.specs.Plans.{size_fault, unless_fault}
use Rattle.space.proofs.Faults.{size_at, fault_at, first_told}
use Rattle.space.proofs.plan.check_plan.Goals as goal

pub returns : goal.returns
returns c =
    let s = c.args.sizes.now in
    let d : dimensions (length s) ≡ true = grind (arith, nat_tests) in
    first_told Size _ _ _ c.map_or.ensures (λ i p. search rules)
    ∙ ap (λ o. unless_fault (option_map (λ k. Size (k + 1)) o))
    (position_from_yields_List (λ n. ltb n 1 || ltb 64 n) c.position-fault.new.self _ _ c.position-fault.ensures.ran (YieldsList-from_slice s cc) (λ x b q k. search rules))
    ∙ ap unless_fault (fault_at _ Size 1 s ∙ size_at 1 s ∙ sym (ap (λ b. cond b (size_fault 1 s) (Some Dimensions)) d))
