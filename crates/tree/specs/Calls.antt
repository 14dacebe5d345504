-- What the calls that change an index do.
use Rattle.std.specs.Prelude.{◌≡◌, ℕ, true, List, length, is_some, Some, None, Ok, Err, Option, Result}
use Rattle.space.specs.Row.{Row, stored_row, stored_as}
use Rattle.space.specs.Plans.{clip_fault}
use Rattle.space.specs.declared.clip.StoredClip.{StoredClip}
use Rattle.space.specs.declared.plan.ClipFault.{ClipFault}
use Rattle.rules.specs.Enter.{entered}
use Rattle.rules.specs.Withdraw.{withdrawn}
use Rattle.tree.specs.declared.index.Index.{Index}
use Rattle.rules.specs.Refusals.{Refusal}
use Rattle.rules.specs.Register.{Call}
use Rattle.rules.specs.State.{told, after}
use Rattle.tree.specs.Seen.{plan_of, tree_in, seen_index, index_boxes}

-- the clip where there is no fault
abbrev pub stored_unless : Option ClipFault → Row → Result StoredClip ClipFault
stored_unless None r = Ok (stored_as r)
stored_unless (Some f) r = Err f

abbrev pub stored_or : List ℕ → ℕ → List ℕ → Result StoredClip ClipFault
stored_or plan n v = stored_unless (clip_fault plan n v) (record { number = n; letters = v })

-- plan, capacity and the table's length stay
pub record Stays (x y : Index) : Type 0 where
  pub plan : plan_of y ≡ plan_of x
  pub capacity : y.capacity ≡ x.capacity
  pub boxes : index_boxes y ≡ index_boxes x

-- the index y is x with the clip entered
pub record Entered (x y : Index) (clip : StoredClip) : Type 0 where
  pub stays : Stays x y
  pub tree : tree_in y ≡ entered (length (plan_of x)) (tree_in x) (stored_row (length (plan_of x)) clip)

-- the index y is x with the number withdrawn
pub record Left (x y : Index) (number : ℕ) : Type 0 where
  pub stays : Stays x y
  pub tree : tree_in y ≡ withdrawn (length (plan_of x)) (tree_in x) number

-- The index y is what the call leaves of x, and the refusal, or none, is what the call answers: both as the rules tell it of what is seen. The
-- table keeps its length, and on a refusal nothing changes.
pub record Does (x y : Index) (call : Call) (refusal : Option Refusal) : Type 0 where
  pub told : refusal ≡ told (seen_index x) call
  pub seen : seen_index y ≡ after (seen_index x) call
  pub boxes : index_boxes y ≡ index_boxes x
  pub kept : is_some refusal ≡ true → y ≡ x
