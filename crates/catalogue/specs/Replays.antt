-- A list of calls made one after the other.
use Rattle.std.specs.Prelude.{◌≡◌, ℕ, List, [], ◌∷◌, ◌++◌, map, take, drop, vec_items, Option}
use Rattle.std.specs.Option.{option_map}
use Rattle.refusals.specs.declared.refusal.Refusal.{Refusal as Held}
use Rattle.refusals.specs.Refused.{numbered}
use Rattle.rules.specs.Refusals.{Refusal}
use Rattle.rules.specs.Register.{enters, withdraws, loads, registered, answers}
use Rattle.rules.specs.Register as register
use Rattle.rules.specs.State.{Seen, told, after}
use Rattle.catalogue.specs.declared.call.Call.{Call}
use Rattle.catalogue.specs.declared.call.Call.TheVariants.{Enter, Withdraw, Load}
use Rattle.catalogue.specs.declared.catalogue.Catalogue.{Catalogue}
use Rattle.catalogue.specs.Seen.{seen_of, boxes_of}
use Rattle.catalogue.specs.Runs.{MadeBy, KeptBy}

-- a call as the register is fed it; a withdrawal is lent a worklist of so many words
abbrev pub call_of : ℕ → Call → register.Call
call_of words (Enter number letters) = enters number (vec_items letters)
call_of words (Withdraw number) = withdraws number words
call_of words (Load file) = loads (vec_items file)

abbrev pub calls_of : ℕ → List Call → List register.Call
calls_of words calls = map (call_of words) calls

abbrev pub numbered_all : List (Option Held) → List (Option Refusal)
numbered_all answers = map (option_map numbered) answers

-- the answers to calls made one after the other, and what is seen after them
abbrev pub told_all : Seen → List register.Call → List (Option Refusal)
told_all s [] = []
told_all s (c ∷ cs) = told s c ∷ told_all (after s c) cs

abbrev pub after_all : Seen → List register.Call → Seen
after_all s [] = s
after_all s (c ∷ cs) = after_all (after s c) cs

-- The first n calls were made: the first n answers are theirs, the others stay, and e is what they leave of c.
pub record Replayed (c e : Catalogue) (calls : List register.Call) (A B : List (Option Held)) (n : ℕ) : Type 0 where
  pub told : numbered_all (take n B) ≡ told_all (seen_of c) (take n calls)
  pub rest : drop n B ≡ drop n A
  pub seen : seen_of e ≡ after_all (seen_of c) (take n calls)
  pub boxes : boxes_of e ≡ boxes_of c

-- The law over runs, for a whole list: whichever calls made c, the answers are the register's to these calls after those, and e is made by all.
abbrev pub RunsAll : Catalogue → Catalogue → List register.Call → List (Option Refusal) → Type 0
RunsAll c e more told = (plan : List ℕ) (capacity : ℕ) (calls : List register.Call) → MadeBy plan capacity calls c
    → (told ≡ answers plan capacity (registered plan capacity [] calls) more)
    × MadeBy plan capacity (calls ++ more) e
    × KeptBy plan capacity (calls ++ more) e
