-- The numbered refusals: which call is refused with which. Checks run in the order of the numbers, and the first that fits is answered; on a void
-- catalogue 20 comes before all.
use Rattle.std.specs.Prelude.{◌≡◌, ℕ, suc, ◌*◌, ◌/◌, max, Bool, cond, not, ◌&&◌, List, [], ◌∷◌, length, Some, None, Option, ◌==◌, nat_le, nat_lt}
use Rattle.std.specs.Option.{option_map}
use Rattle.space.specs.Boxes.{dimensions}
use Rattle.space.specs.Plans.{plan_fault, vector_fault, clip_fault, plan_number, plan_place, clip_number, clip_place}
use Rattle.space.specs.Row.{Row}
use Rattle.rules.specs.Rows.{lists}
use Rattle.space.specs.declared.plan.PlanFault.{PlanFault}
use Rattle.space.specs.declared.plan.ClipFault.{ClipFault}

-- A refusal: its number, its place (the first dimension at fault, from 1, or 0), and the row of a file at fault (from 1, or 0).
pub record Refusal : Type 0 where
  pub number : ℕ
  pub place : ℕ
  pub row : ℕ

abbrev pub refused_at : ℕ → ℕ → ℕ → Refusal
refused_at n place row = record { number = n; place = place; row = row }

abbrev pub when : Bool → ℕ → Option Refusal
when test n = cond test (Some (refused_at n 0 0)) None

-- the first of two that is there
infixr 30 ◌else◌
abbrev pub ◌else◌ : Option Refusal → Option Refusal → Option Refusal
None else b = b
Some r else b = Some r

-- refused with n at that place, unless the place is 0
abbrev pub when_at : ℕ → ℕ → ℕ → Option Refusal
when_at n place row = cond (place == 0) None (Some (refused_at n place row))

-- the first size, counted from i, that is not from 1 to 64; 0 where there is none
abbrev pub bad_size : ℕ → List ℕ → ℕ
bad_size i [] = 0
bad_size i (s ∷ sizes) = cond (nat_le 1 s && nat_le s 64) (bad_size (suc i) sizes) i

-- the first letter, counted from i, that is not below its size; 0 where there is none
abbrev pub bad_letter : ℕ → List ℕ → List ℕ → ℕ
bad_letter i sizes [] = 0
bad_letter i [] (l ∷ v) = i
bad_letter i (s ∷ sizes) (l ∷ v) = cond (nat_lt l s) (bad_letter (suc i) sizes v) i

-- 1: a plan out of limits, with the place of the first size at fault, or 0 where d itself is wrong
abbrev pub of_sizes : List ℕ → Option Refusal
of_sizes sizes = when (not (dimensions (length sizes))) 1 else when_at 1 (bad_size 1 sizes) 0

-- 8: a vector has not d letters; 9: a letter is not below its size, with its dimension
abbrev pub of_vector : List ℕ → List ℕ → Option Refusal
of_vector plan v = when (not (length v == length plan)) 8 else when_at 9 (bad_letter 1 plan v) 0

-- 7: a clip's number is 0
abbrev pub of_clip : List ℕ → ℕ → List ℕ → Option Refusal
of_clip plan n v = when (n == 0) 7 else of_vector plan v

-- 2: the capacity is out of limits; 3: the table is too short
abbrev pub of_fit : List ℕ → ℕ → ℕ → Option Refusal
of_fit plan capacity boxes =
    of_sizes plan
    else when (not (nat_le 1 capacity && nat_le capacity 4096)) 2
    else when (nat_lt boxes (max 1 (capacity / 2))) 3

-- 21: the clip is listed already; 23: the capacity is used up
abbrev pub of_enter : List ℕ → ℕ → List Row → ℕ → List ℕ → Option Refusal
of_enter plan capacity rows n v = of_clip plan n v else when (lists n rows) 21 else when (nat_le capacity (length rows)) 23

-- 22: the clip is not listed; 24: the worklist has fewer words than twice the listed clips
abbrev pub of_withdraw : List Row → ℕ → ℕ → Option Refusal
of_withdraw rows n words = when (n == 0) 7 else when (not (lists n rows)) 22 else when (nat_lt words (2 * length rows)) 24

-- 24: the worklist has fewer words than there are boxes
abbrev pub of_within : List ℕ → List ℕ → ℕ → ℕ → Option Refusal
of_within plan v boxes words = of_vector plan v else when (nat_lt words boxes) 24

-- 10: k is 0, above 64 or above the slots
abbrev pub of_nearest : List ℕ → List ℕ → ℕ → ℕ → ℕ → ℕ → Option Refusal
of_nearest plan v k slots boxes words =
    of_vector plan v else when (not (nat_le 1 k && (nat_le k 64 && nat_le k slots))) 10 else when (nat_lt words boxes) 24

-- 26: nothing is listed
abbrev pub of_count : List Row → Option Refusal
of_count rows = when (length rows == 0) 26

-- 27: the output is too short for what is to be written
abbrev pub of_save : ℕ → ℕ → Option Refusal
of_save needed room = when (nat_lt room needed) 27

-- the layers: 1 plan, 2 file, 3 clip, 4 search, 5 catalogue
abbrev pub layer_of : ℕ → ℕ
layer_of n = cond (nat_le n 3) 1 (cond (nat_le n 6) 2 (cond (nat_le n 9) 3 (cond (nat_le n 10) 4 5)))

-- what the faults that a program tells stand for
abbrev pub plan_refusal : PlanFault → Refusal
plan_refusal f = refused_at (plan_number f) (plan_place f) 0

abbrev pub clip_refusal : ClipFault → Refusal
clip_refusal f = refused_at (clip_number f) (clip_place f) 0

-- the faults of plans, vectors and clips are these refusals
abbrev pub FaultsRefuse : Type 0
FaultsRefuse =
    ((sizes : List ℕ) → option_map plan_refusal (plan_fault sizes) ≡ of_sizes sizes)
    × ((plan v : List ℕ) → option_map clip_refusal (vector_fault plan v) ≡ of_vector plan v)
    × ((plan : List ℕ) (n : ℕ) (v : List ℕ) → option_map clip_refusal (clip_fault plan n v) ≡ of_clip plan n v)
