-- Plans, and what is at fault in a plan or a clip.
use Rattle.std.specs.Prelude.{ℕ, suc, cond, ◌&&◌, List, [], ◌∷◌, length, Some, None, Ok, Err, Option, Result, ◌==◌, nat_le, nat_lt}
use Rattle.space.specs.Boxes.{dimensions}
use Rattle.space.specs.declared.plan.PlanFault.{PlanFault}
use Rattle.space.specs.declared.plan.PlanFault.TheVariants as plan
use Rattle.space.specs.declared.plan.ClipFault.{ClipFault}
use Rattle.space.specs.declared.plan.ClipFault.TheVariants as clip

-- the first size, counted from i, that is not from 1 to 64
abbrev pub size_fault : ℕ → List ℕ → Option PlanFault
size_fault i [] = None
size_fault i (s ∷ sizes) = cond (nat_le 1 s && nat_le s 64) (size_fault (suc i) sizes) (Some (plan.Size i))

-- a plan has 1 to 10 sizes, each from 1 to 64
abbrev pub plan_fault : List ℕ → Option PlanFault
plan_fault sizes = cond (dimensions (length sizes)) (size_fault 1 sizes) (Some plan.Dimensions)

-- the first letter, counted from i, that is not below its size
abbrev pub letter_fault : ℕ → List ℕ → List ℕ → Option ClipFault
letter_fault i sizes [] = None
letter_fault i [] (l ∷ v) = Some (clip.Letter i)
letter_fault i (s ∷ sizes) (l ∷ v) = cond (nat_lt l s) (letter_fault (suc i) sizes v) (Some (clip.Letter i))

-- a vector of a plan has as many letters as the plan has sizes, each below its size
abbrev pub vector_fault : List ℕ → List ℕ → Option ClipFault
vector_fault sizes v = cond (length v == length sizes) (letter_fault 1 sizes v) (Some clip.Dimensions)

-- a clip of a plan has a number from 1 on, and a vector of the plan
abbrev pub clip_fault : List ℕ → ℕ → List ℕ → Option ClipFault
clip_fault sizes number v = cond (number == 0) (Some clip.Number) (vector_fault sizes v)

-- fine where there is no fault
abbrev pub unless_fault : {F : Type 0} → Option F → Result (Unit {0}) F
unless_fault None = Ok tt
unless_fault (Some f) = Err f

-- the numbers of these refusals, and the dimension at fault, from 1, or 0
abbrev pub plan_number : PlanFault → ℕ
plan_number plan.Dimensions = 1
plan_number (plan.Size p) = 1

abbrev pub plan_place : PlanFault → ℕ
plan_place plan.Dimensions = 0
plan_place (plan.Size p) = p

abbrev pub clip_number : ClipFault → ℕ
clip_number clip.Number = 7
clip_number clip.Dimensions = 8
clip_number (clip.Letter p) = 9

abbrev pub clip_place : ClipFault → ℕ
clip_place clip.Number = 0
clip_place clip.Dimensions = 0
clip_place (clip.Letter p) = p
