-- Whether a start is fit, and what it makes.
use Rattle.std.proofs.Common.{◌≡◌, ℕ, ◌/◌, ◌<◌, ◌≤◌, max, true, false, not, ◌&&◌, ltb, leb, ◌⊎◌, List, Some, None, Ok, Err, Option, sym, ap, ◌∙◌, ⊎_elim, arith}
use native.Mathlib.Nat.{max_comm}
use Rattle.std.specs.Option.{option_map}
use Rattle.std.proofs.lemmas.Bool.{le-leb, lt-leb, lt-ltb, le-ltb}
use Rattle.space.specs.Plans.{plan_fault, unless_fault}
use Rattle.space.specs.declared.plan.PlanFault.{PlanFault}
use Rattle.space.proofs.Faults.{fault_none, fault_some}
use Rattle.rules.specs.Refusals.{Refusal, refused_at, when, ◌else◌, plan_refusal, of_fit}
use Rattle.rules.proofs.Faults.{faults_refuse}

-- ---- the answers of `fit`
module _ (plan : List ℕ) (capacity boxes : ℕ) where
  rest : Option Refusal
  rest = when (not (leb 1 capacity && leb capacity 4096)) 2 else when (ltb boxes (max 1 (capacity / 2))) 3

  pub fit_plan : (f : PlanFault) → Err f ≡ unless_fault (plan_fault plan) → Some (plan_refusal f) ≡ of_fit plan capacity boxes
  unfolding rest
  fit_plan f e = sym (ap (λ x. x else rest) (sym (faults_refuse.0 plan) ∙ ap (option_map plan_refusal) (fault_some (plan_fault plan) e)))

  fine : {x : Unit {0}} → Ok x ≡ unless_fault (plan_fault plan) → of_fit plan capacity boxes ≡ rest
  unfolding rest
  fine e = ap (λ x. x else rest) (sym (faults_refuse.0 plan) ∙ ap (option_map plan_refusal) (fault_none (plan_fault plan) e))

  pub fit_capacity : {x : Unit {0}} → Ok x ≡ unless_fault (plan_fault plan) → (capacity < 1) ⊎ (4096 < capacity) → Some (refused_at 2 0 0) ≡ of_fit plan capacity boxes
  unfolding rest
  fit_capacity e out = sym (fine e ∙ ap (λ t. when (not t) 2 else when (ltb boxes (max 1 (capacity / 2))) 3) bad)
    where
      bad : (leb 1 capacity && leb capacity 4096) ≡ false
      bad = ⊎_elim (λ l. ap (λ t. t && leb capacity 4096) (lt-leb 1 capacity l)) (λ l. ap (λ t. t && leb capacity 4096) (le-leb 1 capacity (omega arith)) ∙ lt-leb capacity 4096 l) out

  good : 1 ≤ capacity → capacity ≤ 4096 → (leb 1 capacity && leb capacity 4096) ≡ true
  good l m = ap (λ t. t && leb capacity 4096) (le-leb 1 capacity l) ∙ le-leb capacity 4096 m

  pub fit_table : {x : Unit {0}} → Ok x ≡ unless_fault (plan_fault plan) → 1 ≤ capacity → capacity ≤ 4096 → boxes < max (capacity / 2) 1 → Some (refused_at 3 0 0) ≡ of_fit plan capacity boxes
  unfolding rest
  fit_table e l m b =
      let c = max_comm (capacity / 2) 1 in
      sym (fine e ∙ ap (λ t. when (not t) 2 else when (ltb boxes (max 1 (capacity / 2))) 3) (good l m) ∙ ap (λ t. when t 3) (lt-ltb boxes (max 1 (capacity / 2)) (omega arith)))

  pub fit_fine : {x : Unit {0}} → Ok x ≡ unless_fault (plan_fault plan) → 1 ≤ capacity → capacity ≤ 4096 → max (capacity / 2) 1 ≤ boxes → None ≡ of_fit plan capacity boxes
  unfolding rest
  fit_fine e l m b =
      let c = max_comm (capacity / 2) 1 in
      sym (fine e ∙ ap (λ t. when (not t) 2 else when (ltb boxes (max 1 (capacity / 2))) 3) (good l m) ∙ ap (λ t. when t 3) (le-ltb boxes (max 1 (capacity / 2)) (omega arith)))
