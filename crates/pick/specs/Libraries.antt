-- What a library does at each command.
use Rattle.std.specs.Prelude.{◌≡◌, ℕ, ◌-◌, ◌^◌, cond, ◌&&◌, List, [], ◌∷◌, ◌++◌, length, replicate, Some, None, vec_items, Option, bit_or, nat_le, nat_lt, slice_index, slice_set}
use Rattle.space.specs.Boxes.{only}
use Rattle.space.specs.Plans.{clip_fault}
use Rattle.space.specs.Row.{Row, rows_of}
use Rattle.space.specs.declared.plan.ClipFault.{ClipFault}
use Rattle.space.specs.declared.plan.ClipFault.TheVariants as fault
use Rattle.pick.specs.Rows.{listed}
use Rattle.pick.specs.declared.library.Library.{Library}
use Rattle.pick.specs.declared.refusal.Refusal.{Refusal}
use Rattle.pick.specs.declared.refusal.Refusal.TheVariants as refusal
use Rattle.pick.specs.declared.refusal.Trouble.{Trouble}
use Rattle.pick.specs.declared.refusal.Trouble.TheVariants.{Refused, Memory}

abbrev pub sizes_of : Library → List ℕ
sizes_of l = vec_items l.plan

abbrev pub rows_in : Library → List Row
rows_in l = rows_of (vec_items l.clips)

-- an empty library with that plan
pub record Begun (sizes : List ℕ) (l : Library) : Type 0 where
  pub plan : sizes_of l ≡ sizes
  pub rows : rows_in l ≡ []
  pub bars : l.bars ≡ replicate 10 0
  pub limit : l.limit ≡ 2 ^ 32 - 1

-- the refusal comes where the rules say so; want of memory can come always
abbrev pub Refuses : Option Refusal → Trouble → Type 0
Refuses fault (Refused e) = fault ≡ Some e
Refuses fault Memory = Unit {0}

-- a fault of the clip itself, or else what comes after
abbrev pub clip_first : Option ClipFault → Option Refusal → Option Refusal
clip_first None after = after
clip_first (Some f) after = Some (refusal.Clip f)

-- 7, 8, 9: no clip of the plan; 21: listed already; 23: capacity used up
abbrev pub list_fault : Library → ℕ → List ℕ → Option Refusal
list_fault l n v =
    clip_first (clip_fault (sizes_of l) n v)
    (cond (listed n (rows_in l)) (Some refusal.Listed) (cond (nat_lt (length (rows_in l)) 4096) None (Some refusal.Full)))

-- what a command for clips leaves alone
abbrev pub Keeps : Library → Library → Type 0
Keeps old new = (new.plan ≡ old.plan) × (new.bars ≡ old.bars) × (new.limit ≡ old.limit)

-- one row more, at the end
pub record Listed (old new : Library) (n : ℕ) (v : List ℕ) : Type 0 where
  pub rows : rows_in new ≡ rows_in old ++ (record { number = n; letters = v } ∷ [])
  pub keeps : Keeps old new

-- a refusal changes nothing, and want of memory nothing that the rules speak of
abbrev pub Unlisted : Library → Library → Trouble → Type 0
Unlisted old new (Refused e) = new ≡ old
Unlisted old new Memory = (rows_in new ≡ rows_in old) × Keeps old new

-- no such dimension, or 9: the letter is not below its size
abbrev pub bar_fault : Library → ℕ → ℕ → Option Refusal
bar_fault l d x =
    cond (nat_le 1 d && nat_le d (length (sizes_of l)))
    (cond (nat_lt x (slice_index (sizes_of l) (d - 1))) None (Some (refusal.Clip (fault.Letter d))))
    (Some refusal.NoDimension)

-- the letter is in the set of its dimension too
pub record Barred (old new : Library) (d x : ℕ) : Type 0 where
  pub bars : new.bars ≡ slice_set old.bars (d - 1) (bit_or (slice_index old.bars (d - 1)) (only x))
  pub rows : new.clips ≡ old.clips
  pub plan : new.plan ≡ old.plan
  pub limit : new.limit ≡ old.limit

pub record CutAt (old new : Library) (n : ℕ) : Type 0 where
  pub limit : new.limit ≡ n
  pub rows : new.clips ≡ old.clips
  pub plan : new.plan ≡ old.plan
  pub bars : new.bars ≡ old.bars
