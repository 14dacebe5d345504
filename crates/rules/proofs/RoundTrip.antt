-- What a run of calls leaves is saved and loaded again.
use Rattle.std.proofs.Common.{◌≡◌, ℕ, ◌^◌, ◌<◌, ◌≤◌, List, [], ◌∷◌, length, Some, None, Option, sym, refl, subst, arith}
use Rattle.std.specs.List.{AllByRecursion}
use Rattle.std.proofs.ByRecursion.{All-push, All-append, All-weaker}
use Rattle.ranked.specs.Same.{Same, then}
use Rattle.ranked.proofs.Sames.{all_same, length_same}
use Rattle.space.specs.Row.{Row}
use Rattle.rules.specs.Tree.{rows_in}
use Rattle.rules.specs.Refusals.{Refusal}
use Rattle.rules.specs.Register.{Call, enters, withdraws, loads, answer, recorded, unless, next, registered}
use Rattle.rules.specs.File.{file_rows}
use Rattle.rules.specs.LawsFile.{FitsFile, PossibleRow, Possible, RunsSave}
use Rattle.rules.specs.Promise.{Proper}
use Rattle.rules.proofs.Alls.{all_both}
use Rattle.rules.proofs.Files.{saved_reads, saved_loads, loaded_proper}
use Rattle.rules.proofs.Rankings.{once_same}
use Rattle.rules.proofs.Risings.{rising_same}
use Rattle.rules.proofs.Times.{all_without}

-- the numbers of a register's rows are of 32 bits
abbrev Small : Row → Type 0
Small r = r.number < 2 ^ 32

step_small : (plan : List ℕ) (capacity : ℕ) (rows : List Row) (c : Call) → Possible c → answer plan capacity rows c ≡ None → AllByRecursion Small rows → AllByRecursion Small (recorded plan rows c)
step_small plan capacity rows (enters n v) p e a = All-push Small rows (record { number = n; letters = v }) a p
step_small plan capacity rows (withdraws n words) p e a = all_without Small n rows a
step_small plan capacity rows (loads file) p e a =
    All-append Small rows (file_rows plan file) a
    (All-weaker (PossibleRow plan) Small (λ r q. q.0) (file_rows plan file) (loaded_proper plan capacity rows file p e).0)

run_small : (plan : List ℕ) (capacity : ℕ) (rows : List Row) (cs : List Call) → AllByRecursion Possible cs → AllByRecursion Small rows → AllByRecursion Small (registered plan capacity rows cs)
run_small plan capacity rows [] p a = a
run_small plan capacity rows (c ∷ cs) p a = run_small plan capacity (next plan capacity rows c) cs p.1 (go (answer plan capacity rows c) refl)
  where
    go : (o : Option Refusal) → answer plan capacity rows c ≡ o → AllByRecursion Small (unless o (recorded plan rows c) rows)
    go None e = step_small plan capacity rows c p.0 e a
    go (Some r) e = a

pub runs_save : RunsSave
runs_save plan capacity calls t k possible few =
    let rows = registered plan capacity [] calls in
    let can : AllByRecursion (PossibleRow plan) rows =
    all_both Small (Proper plan) (PossibleRow plan) (λ r x y. (x, y)) rows (run_small plan capacity [] calls possible tt) k.proper in
    let here : AllByRecursion (PossibleRow plan) (rows_in t) = all_same (PossibleRow plan) k.entries can in
    let once = once_same rows (rows_in t) k.entries k.once in
    let long = length_same k.entries in
    let room : length (rows_in t) ≤ capacity = let r = k.room in omega arith in
    let fits = All-weaker (PossibleRow plan) (FitsFile (length plan)) (λ r q. (q.0, q.1.1)) (rows_in t) here in
    let back = saved_reads plan (rows_in t) fits (omega arith) in (
      saved_loads plan capacity (rows_in t) here once (omega arith) room,
      subst (Same rows) (sym back) (then k.entries (rising_same (rows_in t))),
    )
