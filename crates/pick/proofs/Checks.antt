-- Which refusal comes.
use Rattle.std.proofs.Common.{◌≡◌, ℕ, Bool, true, false, cond, ltb, List, length, Some, None, Option, refl}
use Rattle.std.proofs.lemmas.List.{length-map}
use Rattle.space.proofs.Faults.{fault_none}
use Rattle.pick.proofs.Listings.{listed_any}
use Rattle.space.specs.Plans.{clip_fault}
use Rattle.space.specs.declared.plan.ClipFault.{ClipFault}
use Rattle.pick.specs.Rows.{listed}
use Rattle.pick.specs.Libraries.{clip_first, list_fault, sizes_of, rows_in}
use Rattle.pick.specs.declared.library.Library.{Library}
use Rattle.pick.specs.declared.refusal.Refusal.{Refusal}
use Rattle.pick.specs.declared.refusal.Refusal.TheVariants as refusal

abbrev later : Bool → ℕ → Option Refusal
later t n = cond t (Some refusal.Listed) (cond (ltb n 4096) None (Some refusal.Full))

-- what a clip that can be listed is
room_parts : (f : Option ClipFault) (t : Bool) (n : ℕ) → clip_first f (later t n) ≡ None → (f ≡ None) × (t ≡ false) × (ltb n 4096 ≡ true)
room_parts (Some x) t n h = cc
room_parts None true n h = cc
room_parts None false n h =
    elim (ltb n 4096) as (λ s. cond s None (Some refusal.Full) ≡ None → (◌≡◌ {A = Option ClipFault} None None) × (false ≡ false) × (s ≡ true))
    [ true ↦ (λ z. (refl, refl, refl)) | false ↦ (λ z. cc) ]
    h

pub new_parts : (l : Library) (n : ℕ) (v : List ℕ) → list_fault l n v ≡ None
    → (clip_fault (sizes_of l) n v ≡ None) × (listed n (rows_in l) ≡ false) × (ltb (length (rows_in l)) 4096 ≡ true)
new_parts l n v h = room_parts (clip_fault (sizes_of l) n v) (listed n (rows_in l)) (length (rows_in l)) h

pub ruleset checks = (listed_any, fault_none, length-map)
