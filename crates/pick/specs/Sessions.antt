-- What a session does at each command.
use Rattle.std.specs.Prelude.{◌≡◌, ℕ, List, length, Some, None, Option, Result, MatchResult}
use Rattle.std.specs.Option.{option_map}
use Rattle.space.specs.Plans.{plan_fault}
use Rattle.pick.specs.Said.{Said, plan, clip, bar, cut, near}
use Rattle.pick.specs.Libraries.{Begun, Listed, Barred, CutAt, Refuses, list_fault, bar_fault}
use Rattle.pick.specs.Answers.{Answers, ask_fault}
use Rattle.pick.specs.declared.library.Library.{Library}
use Rattle.pick.specs.declared.refusal.Refusal.{Refusal}
use Rattle.pick.specs.declared.refusal.Refusal.TheVariants as refusal
use Rattle.pick.specs.declared.refusal.Trouble.{Trouble}
use Rattle.pick.specs.declared.refusal.Trouble.TheVariants.{Refused, Memory}
use Rattle.pick.specs.declared.reply.Reply.{Reply}
use Rattle.pick.specs.declared.reply.Reply.TheVariants as reply
use Rattle.pick.specs.declared.session.Session.{Session}

-- a refusal changes nothing
abbrev pub Kept : Session → Session → Trouble → Type 0
Kept old new (Refused e) = new ≡ old
Kept old new Memory = Unit {0}

-- 20: without a plan; else by the library
abbrev pub fault_in : Option Library → (Library → Option Refusal) → Option Refusal
fault_in None f = Some refusal.NoPlan
fault_in (Some l) f = f l

-- a library before and after
abbrev pub Within : Option Library → Option Library → (Library → Library → Type 0) → Type 0
Within None new P = ⊥
Within (Some l) None P = ⊥
Within (Some l) (Some m) P = P l m

abbrev pub Opened : Option Library → (Library → Type 0) → Type 0
Opened None P = ⊥
Opened (Some l) P = P l

-- where it is refused: for the reason that the rules give, and with nothing changed
abbrev pub Stops : Option Refusal → Session → Session → Trouble → Type 0
Stops fault old new e = Refuses fault e × Kept old new e

abbrev pub Begins : List ℕ → Session → Session → Result Reply Trouble → Type 0
Begins sizes old new r =
    MatchResult r (λ y. (y ≡ reply.Begun (length sizes)) × Opened new.library (Begun sizes)) (Stops (option_map refusal.Plan (plan_fault sizes)) old new)

abbrev pub Lists : ℕ → List ℕ → Session → Session → Result Reply Trouble → Type 0
Lists n v old new r =
    MatchResult r (λ y. (y ≡ reply.Listed n) × Within old.library new.library (λ l m. (list_fault l n v ≡ None) × Listed l m n v)) (Stops (fault_in old.library (λ l. list_fault l n v)) old new)

abbrev pub Bars : ℕ → ℕ → Session → Session → Result Reply Trouble → Type 0
Bars d x old new r =
    MatchResult r (λ y. (y ≡ reply.Barred d x) × Within old.library new.library (λ l m. (bar_fault l d x ≡ None) × Barred l m d x)) (Stops (fault_in old.library (λ l. bar_fault l d x)) old new)

abbrev pub Cuts : ℕ → Session → Session → Result Reply Trouble → Type 0
Cuts n old new r = MatchResult r (λ y. (y ≡ reply.CutOff n) × Within old.library new.library (λ l m. CutAt l m n)) (Stops (fault_in old.library (λ l. None)) old new)

-- what a query is answered with
abbrev pub Found : Library → ℕ → List ℕ → Reply → Type 0
Found l k q (reply.Begun n) = ⊥
Found l k q (reply.Listed n) = ⊥
Found l k q (reply.Barred d x) = ⊥
Found l k q (reply.CutOff n) = ⊥
Found l k q (reply.Found a) = Answers l k q a

abbrev pub Asks : ℕ → List ℕ → Session → Result Reply Trouble → Type 0
Asks k q s r = MatchResult r (λ y. Opened s.library (λ l. Found l k q y)) (Refuses (fault_in s.library (λ l. ask_fault l k q)))

abbrev pub Obeys : Said → Session → Session → Result Reply Trouble → Type 0
Obeys (plan sizes) old new r = Begins sizes old new r
Obeys (clip n v) old new r = Lists n v old new r
Obeys (bar d x) old new r = Bars d x old new r
Obeys (cut n) old new r = Cuts n old new r
Obeys (near k q) old new r = Asks k q old r × (new ≡ old)
