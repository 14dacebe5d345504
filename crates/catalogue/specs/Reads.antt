-- What the calls that only read a catalogue give.
use Rattle.std.specs.Prelude.{◌≡◌, ℕ, List, [], ◌++◌, length, drop, None, Result, MatchResult}
use Rattle.std.specs.List.{AllByRecursion}
use Rattle.ranked.specs.Same.{Same}
use Rattle.measures.specs.Counts.{count_at}
use Rattle.measures.specs.Counted.{CountIs}
use Rattle.measures.specs.declared.count.Count.{Count}
use Rattle.refusals.specs.declared.refusal.Refusal.{Refusal as Held}
use Rattle.rules.specs.Tree.{rows_in}
use Rattle.rules.specs.File.{saved, file_rows, of_load}
use Rattle.rules.specs.LawsFile.{Possible}
use Rattle.rules.specs.Register.{Call, registered}
use Rattle.rules.specs.State.{Seen, void, standing}
use Rattle.catalogue.specs.declared.catalogue.Catalogue.{Catalogue}
use Rattle.catalogue.specs.Seen.{seen_of}
use Rattle.catalogue.specs.Runs.{MadeBy}

-- the bytes that are saved of what is seen
abbrev pub saved_of : Seen → List ℕ
saved_of void = []
saved_of (standing plan capacity t) = saved plan (rows_in t)

-- They stand at the front of the output, whose other bytes stay, and are as many as is answered; on a refusal all stays.
abbrev pub SavedAs : Seen → List ℕ → List ℕ → Result ℕ Held → Type 0
SavedAs s old new r = MatchResult r (λ n. (n ≡ length (saved_of s)) × (new ≡ saved_of s ++ drop n old)) (λ _. new ≡ old)

-- What is saved of a catalogue that calls with arguments that can be have made, loads into an empty one of its plan and capacity, with the same
-- rows.
abbrev pub LoadsBack : Catalogue → Type 0
LoadsBack c = (plan : List ℕ) (capacity : ℕ) (calls : List Call) → MadeBy plan capacity calls c → AllByRecursion Possible calls
    → (of_load plan capacity [] (saved_of (seen_of c)) ≡ None)
    × Same (registered plan capacity [] calls) (file_rows plan (saved_of (seen_of c)))

-- the count of the rows that are seen: their number, their dimensions, and how many have which letter where
abbrev pub CountOf : Seen → Count → Type 0
CountOf void count = ⊥
CountOf (standing plan capacity t) count = CountIs (length plan) (length (rows_in t)) (λ i l. count_at i l (rows_in t)) count

-- on a refusal the count stays
abbrev pub CountedAs : Seen → Count → Count → Result (Unit {0}) Held → Type 0
CountedAs s old new r = MatchResult r (λ _. CountOf s new) (λ _. new ≡ old)
