-- The faults that a program tells are the numbered refusals.
use Rattle.std.proofs.Common.{◌≡◌, ℕ, suc, Bool, true, false, cond, not, eqb, List, [], ◌∷◌, length, Some, refl, arith}
use Rattle.std.specs.Option.{option_map}
use Rattle.std.proofs.lemmas.Bool.Decides.{nat_tests}
use Rattle.space.specs.Boxes.{dimensions}
use Rattle.space.specs.Plans.{size_fault, letter_fault, vector_fault}
use Rattle.space.specs.declared.plan.ClipFault.TheVariants.{Number, Dimensions}
use Rattle.space.specs.declared.plan.PlanFault.TheVariants as plan
use Rattle.rules.specs.Refusals.{when, ◌else◌, when_at, bad_size, bad_letter, plan_refusal, clip_refusal, of_vector, FaultsRefuse}

-- counted from a number above 0
size_refused : (i : ℕ) (sizes : List ℕ) → option_map plan_refusal (size_fault (suc i) sizes) ≡ when_at 1 (bad_size (suc i) sizes) 0
size_refused i [] = refl
size_refused i (s ∷ sizes) = let more = size_refused (suc i) sizes in grind (arith, nat_tests)

letter_refused : (i : ℕ) (sizes v : List ℕ) → option_map clip_refusal (letter_fault (suc i) sizes v) ≡ when_at 9 (bad_letter (suc i) sizes v) 0
letter_refused i sizes [] = refl
letter_refused i [] (l ∷ v) = grind (arith, nat_tests)
letter_refused i (s ∷ sizes) (l ∷ v) = let more = letter_refused (suc i) sizes v in grind (arith, nat_tests)

vector_refused : (plan v : List ℕ) → option_map clip_refusal (vector_fault plan v) ≡ of_vector plan v
vector_refused plan v = go (eqb (length v) (length plan))
  where
    go : (t : Bool) → option_map clip_refusal (cond t (letter_fault 1 plan v) (Some Dimensions)) ≡ (when (not t) 8 else when_at 9 (bad_letter 1 plan v) 0)
    go true = letter_refused 0 plan v
    go false = refl

pub faults_refuse : FaultsRefuse
faults_refuse = ((λ sizes. plans sizes (dimensions (length sizes))), vector_refused, (λ plan n v. clips plan v (eqb n 0)))
  where
    plans : (sizes : List ℕ) (t : Bool)
        → option_map plan_refusal (cond t (size_fault 1 sizes) (Some plan.Dimensions)) ≡ (when (not t) 1 else when_at 1 (bad_size 1 sizes) 0)
    plans sizes true = size_refused 0 sizes
    plans sizes false = refl

    clips : (sizes v : List ℕ) (t : Bool) → option_map clip_refusal (cond t (Some Number) (vector_fault sizes v)) ≡ (when t 7 else of_vector sizes v)
    clips sizes v true = refl
    clips sizes v false = vector_refused sizes v
