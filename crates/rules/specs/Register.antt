-- Runs of calls: the register, a plain list of rows fed the calls' arguments, and the tree that the rules make by the same calls.
use Rattle.std.specs.Prelude.{ℕ, List, [], ◌∷◌, ◌++◌, length, Some, None, Option}
use Rattle.space.specs.Row.{Row}
use Rattle.rules.specs.Tree.{Tree}
use Rattle.rules.specs.Enter.{entered, entered_all}
use Rattle.rules.specs.Rows.{without}
use Rattle.rules.specs.Withdraw.{withdrawn}
use Rattle.rules.specs.Refusals.{Refusal, of_enter, of_withdraw}
use Rattle.rules.specs.File.{of_load, file_rows}

-- the calls that change a catalogue, with their arguments; of a worklist, how many words it has
pub data Call : Type 0 where
  enters : ℕ → List ℕ → Call
  withdraws : ℕ → ℕ → Call
  loads : List ℕ → Call

-- what the register answers, read from its plan, its capacity, its rows and the call
abbrev pub answer : List ℕ → ℕ → List Row → Call → Option Refusal
answer plan capacity rows (enters n v) = of_enter plan capacity rows n v
answer plan capacity rows (withdraws n words) = of_withdraw rows n words
answer plan capacity rows (loads file) = of_load plan capacity rows file

-- its rows after a call that is not refused
abbrev pub recorded : List ℕ → List Row → Call → List Row
recorded plan rows (enters n v) = rows ++ record { number = n; letters = v } ∷ []
recorded plan rows (withdraws n words) = without n rows
recorded plan rows (loads file) = rows ++ file_rows plan file

-- on a refusal all stays
abbrev pub unless : {A : Type 0} → Option Refusal → A → A → A
unless None new old = new
unless (Some r) new old = old

abbrev pub next : List ℕ → ℕ → List Row → Call → List Row
next plan capacity rows c = unless (answer plan capacity rows c) (recorded plan rows c) rows

-- the rows after a run of calls
abbrev pub registered : List ℕ → ℕ → List Row → List Call → List Row
registered plan capacity rows [] = rows
registered plan capacity rows (c ∷ cs) = registered plan capacity (next plan capacity rows c) cs

-- the answers to the calls of a run, in order
abbrev pub answers : List ℕ → ℕ → List Row → List Call → List (Option Refusal)
answers plan capacity rows [] = []
answers plan capacity rows (c ∷ cs) = answer plan capacity rows c ∷ answers plan capacity (next plan capacity rows c) cs

-- the tree after a call that is not refused
abbrev pub ruled : List ℕ → Tree → Call → Tree
ruled plan t (enters n v) = entered (length plan) t (record { number = n; letters = v })
ruled plan t (withdraws n words) = withdrawn (length plan) t n
ruled plan t (loads file) = entered_all (length plan) t (file_rows plan file)

-- the tree that the rules make by a run of calls; each is refused or not as by the register
abbrev pub grown : List ℕ → ℕ → List Row → Tree → List Call → Tree
grown plan capacity rows t [] = t
grown plan capacity rows t (c ∷ cs) =
    grown plan capacity (next plan capacity rows c) (unless (answer plan capacity rows c) (ruled plan t c) t) cs
