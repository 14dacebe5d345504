-- What a call does to a catalogue, and what that means for every run of calls that made it.
use Rattle.std.specs.Prelude.{◌≡◌, ℕ, true, false, List, [], ◌∷◌, ◌++◌, length, is_some, None, Option, ◌==◌}
use Rattle.rules.specs.Refusals.{Refusal, when, of_fit, of_clip}
use Rattle.rules.specs.Rows.{lists}
use Rattle.rules.specs.Register.{Call, answer, registered}
use Rattle.rules.specs.State.{told, after, started, Made}
use Rattle.rules.specs.Promise.{Kept}
use Rattle.catalogue.specs.declared.catalogue.Catalogue.{Catalogue}
use Rattle.catalogue.specs.Seen.{seen_of, boxes_of, seen_tree}

-- The catalogue e is what the call leaves of c, and the refusal, or none, is what it answers: both as the rules tell it of what is seen. The table
-- keeps its length, and on a refusal nothing changes.
pub record Does (c e : Catalogue) (call : Call) (refusal : Option Refusal) : Type 0 where
  pub told : refusal ≡ told (seen_of c) call
  pub seen : seen_of e ≡ after (seen_of c) call
  pub boxes : boxes_of e ≡ boxes_of c
  pub kept : is_some refusal ≡ true → e ≡ c

-- a catalogue that a fit start with that plan and capacity and then those calls have made
abbrev pub MadeBy : List ℕ → ℕ → List Call → Catalogue → Type 0
MadeBy plan capacity calls c = Made plan capacity calls (boxes_of c) (seen_of c)

-- what holds of it: the build, the rows of its leaves are the register's, and so on
abbrev pub KeptBy : List ℕ → ℕ → List Call → Catalogue → Type 0
KeptBy plan capacity calls c = Kept plan capacity calls (seen_tree (seen_of c))

-- The law over runs, for one call more: whichever calls made c, the answer is the register's to this call after those, and e is made by those
-- calls and this one.
abbrev pub RunsOn : Catalogue → Catalogue → Call → Option Refusal → Type 0
RunsOn c e call refusal = (plan : List ℕ) (capacity : ℕ) (calls : List Call) → MadeBy plan capacity calls c
    → (refusal ≡ answer plan capacity (registered plan capacity [] calls) call)
    × MadeBy plan capacity (calls ++ call ∷ []) e
    × KeptBy plan capacity (calls ++ call ∷ []) e

-- a proper clip that is not listed is refused exactly where the rows are as many as the capacity, and then with 23
abbrev pub AtCapacity : Catalogue → ℕ → List ℕ → Option Refusal → Type 0
AtCapacity c n v refusal = (plan : List ℕ) (capacity : ℕ) (calls : List Call) → MadeBy plan capacity calls c
    → of_clip plan n v ≡ None → lists n (registered plan capacity [] calls) ≡ false
    → refusal ≡ when (length (registered plan capacity [] calls) == capacity) 23

-- a start: what is seen, and where it is fit, a run of no calls
pub record Started (plan : List ℕ) (capacity boxes : ℕ) (c : Catalogue) : Type 0 where
  pub seen : seen_of c ≡ started plan capacity boxes
  pub made : of_fit plan capacity boxes ≡ None → MadeBy plan capacity [] c × KeptBy plan capacity [] c
