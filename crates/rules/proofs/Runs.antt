-- The laws of runs.
use Rattle.std.proofs.Common.{◌≡◌, ℕ, ◌+◌, ◌≤◌, Bool, true, false, cond, eqb, leb, ◌⊎◌, List, [], ◌∷◌, ◌++◌, length, Some, None, Option, sym, refl, ap, ◌∙◌, subst, ap₂, inl, inr, arith}
use Rattle.std.specs.List.{AllByRecursion}
use Rattle.std.proofs.lemmas.List.{length_push, nil_from_length}
use Rattle.std.proofs.ByRecursion.{All-push}
use Rattle.std.proofs.lemmas.Bool.{eqb-true, eq-eqb, ne_eqb, le-leb, lt-leb, cases_eq}
use Rattle.space.specs.Row.{Row}
use Rattle.rules.specs.Tree.{Tree, empty, rows_in}
use Rattle.rules.specs.Rows.{lists}
use Rattle.rules.specs.Build.{Build}
use Rattle.rules.specs.Refusals.{Refusal, when, ◌else◌}
use Rattle.rules.specs.File.{file_rows}
use Rattle.rules.specs.Register.{Call, enters, withdraws, loads, answer, recorded, unless, next, registered, answers, ruled, grown}
use Rattle.rules.specs.Finds.{Once}
use Rattle.rules.specs.Promise.{Proper, Kept}
use Rattle.ranked.specs.Same.{Same, none, then}
use Rattle.rules.specs.LawsRun.{RunsKeep, RunsAnswer, RunsStep, RunsGoOn, EnterAtCapacity}
use Rattle.ranked.proofs.Sames.{same_sym, length_same, same_after, same_swap}
use Rattle.rules.proofs.Sizes.{few_boxes}
use Rattle.rules.proofs.Builds.{empty_build, entered_build, entered_all_build}
use Rattle.rules.proofs.Rows.{entered_rows, entered_all_rows}
use Rattle.rules.proofs.Times.{times, Single, times_append, times_same, times_without, unlisted_times, lists_same, length_without, all_without, without_same, single_once}
use Rattle.rules.proofs.Withdrawing.{withdrawing_keeps}
use Rattle.rules.proofs.Answered.{enter_open, withdraw_open, load_open, answer_same}

-- what holds of a register's rows and of the tree, from call to call
pub record Holds (plan : List ℕ) (capacity : ℕ) (rows : List Row) (t : Tree) : Type 0 where
  pub build : Build (length plan) t
  pub entries : Same rows (rows_in t)
  pub proper : AllByRecursion (Proper plan) rows
  pub once : Single rows
  pub room : length rows ≤ capacity

one_more : (t : Bool) → cond t 1 0 ≤ 1
one_more true = omega arith
one_more false = omega arith

-- a row more whose number is new
new_single : (r : Row) (rows : List Row) → times r.number rows ≡ 0 → Single rows → Single (rows ++ r ∷ [])
new_single r rows e s n = go (eqb r.number n) refl
  where
    go : (t : Bool) → eqb r.number n ≡ t → times n (rows ++ r ∷ []) ≤ 1
    go true q = let z = eqb-true r.number n q in
        let m : times n rows ≡ 0 = subst (λ k. times k rows ≡ 0) z e in
        omega (arith, times_append n rows (r ∷ []), one_more (eqb r.number n))
    go false q = let m : ◌≡◌ {A = ℕ} (cond (eqb r.number n) 1 0) 0 = ap (λ t. cond t 1 0) q in omega (arith, times_append n rows (r ∷ []), s n)

pub step : (plan : List ℕ) (capacity : ℕ) (rows : List Row) (t : Tree) → Holds plan capacity rows t → (c : Call) → answer plan capacity rows c ≡ None
    → Holds plan capacity (recorded plan rows c) (ruled plan t c)
step plan capacity rows t k (enters n v) e =
    let r : Row = record { number = n; letters = v } in
    let o = enter_open plan capacity rows n v e in
    let long : length (rows ++ r ∷ []) ≡ length rows + 1 = length_push rows r in
    record {
      build = entered_build (length plan) t r k.build;
      entries = then (same_swap rows (r ∷ [])) (then (same_after (r ∷ []) k.entries) (entered_rows (length plan) t r k.build));
      proper = All-push (Proper plan) rows r k.proper o.0;
      once = new_single r rows (unlisted_times n rows o.1) k.once;
      room = omega (arith, o.2);
    }
step plan capacity rows t k (withdraws n words) e =
    let l = withdraw_open rows n words e in
    let here : lists n (rows_in t) ≡ true = sym (lists_same n k.entries) ∙ l in
    let single : Once (rows_in t) = single_once (rows_in t) (λ m. omega (arith, times_same m k.entries, k.once m)) in
    let w = withdrawing_keeps (length plan) t n k.build single here in
    record {
      build = w.0;
      entries = then (without_same n k.entries) w.1;
      proper = all_without (Proper plan) n rows k.proper;
      once = λ m. omega (arith, times_without m n rows, k.once m);
      room = omega (arith, length_without n rows, k.room);
    }
step plan capacity rows t k (loads file) e =
    let o = load_open plan capacity rows file e in
    let rs = file_rows plan file in
    let nil : rows ≡ [] = nil_from_length rows o.3 in
    record {
      build = entered_all_build (length plan) t rs k.build;
      entries = then (same_swap rows rs) (then (same_after rs k.entries) (entered_all_rows (length plan) t rs k.build));
      proper = subst (λ x. AllByRecursion (Proper plan) (x ++ rs)) (sym nil) o.0;
      once = subst (λ x. Single (x ++ rs)) (sym nil) o.1;
      room = subst (λ x. length (x ++ rs) ≤ capacity) (sym nil) o.2;
    }

pub step_or_stay : (plan : List ℕ) (capacity : ℕ) (rows : List Row) (t : Tree) → Holds plan capacity rows t → (c : Call)
    → Holds plan capacity (next plan capacity rows c) (unless (answer plan capacity rows c) (ruled plan t c) t)
step_or_stay plan capacity rows t k c = go (answer plan capacity rows c) refl
  where
    go : (a : Option Refusal) → answer plan capacity rows c ≡ a → Holds plan capacity (unless a (recorded plan rows c) rows) (unless a (ruled plan t c) t)
    go None e = step plan capacity rows t k c e
    go (Some r) e = k

pub run : (plan : List ℕ) (capacity : ℕ) (rows : List Row) (t : Tree) → Holds plan capacity rows t → (cs : List Call)
    → Holds plan capacity (registered plan capacity rows cs) (grown plan capacity rows t cs)
run plan capacity rows t k [] = k
run plan capacity rows t k (c ∷ cs) = run plan capacity (next plan capacity rows c) (unless (answer plan capacity rows c) (ruled plan t c) t) (step_or_stay plan capacity rows t k c) cs

start : (plan : List ℕ) (capacity : ℕ) → Holds plan capacity [] (empty (length plan))
start plan capacity = record { build = empty_build (length plan); entries = none; proper = tt; once = λ n. omega arith; room = omega arith }

pub runs_keep : RunsKeep
runs_keep plan capacity calls =
    let k = run plan capacity [] (empty (length plan)) (start plan capacity) calls in
    let t = grown plan capacity [] (empty (length plan)) calls in
    let long : length (registered plan capacity [] calls) ≡ length (rows_in t) = length_same k.entries in
    record {
      tree = refl;
      build = k.build;
      entries = k.entries;
      proper = k.proper;
      once = single_once (registered plan capacity [] calls) k.once;
      room = k.room;
      boxes = λ two. omega (arith, few_boxes (length plan) t k.build (omega arith));
    }

pub runs_answer : RunsAnswer
runs_answer plan capacity calls t k c = answer_same plan capacity (same_sym k.entries) c

registered_more : (plan : List ℕ) (capacity : ℕ) (rows : List Row) (calls : List Call) (c : Call)
    → registered plan capacity rows (calls ++ c ∷ []) ≡ next plan capacity (registered plan capacity rows calls) c
registered_more plan capacity rows [] c = refl
registered_more plan capacity rows (b ∷ calls) c = registered_more plan capacity (next plan capacity rows b) calls c

answers_more : (plan : List ℕ) (capacity : ℕ) (rows : List Row) (calls : List Call) (c : Call)
    → answers plan capacity rows (calls ++ c ∷ []) ≡ answers plan capacity rows calls ++ answer plan capacity (registered plan capacity rows calls) c ∷ []
answers_more plan capacity rows [] c = refl
answers_more plan capacity rows (b ∷ calls) c = ap (λ l. answer plan capacity rows b ∷ l) (answers_more plan capacity (next plan capacity rows b) calls c)

grown_more : (plan : List ℕ) (capacity : ℕ) (rows : List Row) (t : Tree) (calls : List Call) (c : Call)
    → grown plan capacity rows t (calls ++ c ∷ [])
    ≡ unless (answer plan capacity (registered plan capacity rows calls) c) (ruled plan (grown plan capacity rows t calls) c) (grown plan capacity rows t calls)
grown_more plan capacity rows t [] c = refl
grown_more plan capacity rows t (b ∷ calls) c = grown_more plan capacity (next plan capacity rows b) (unless (answer plan capacity rows b) (ruled plan t b) t) calls c

pub runs_step : RunsStep
runs_step plan capacity rows t calls c = (registered_more plan capacity rows calls c, answers_more plan capacity rows calls c, grown_more plan capacity rows t calls c)

pub runs_go_on : RunsGoOn
runs_go_on plan capacity calls t k c =
    let e : grown plan capacity [] (empty (length plan)) (calls ++ c ∷ []) ≡ unless (answer plan capacity (rows_in t) c) (ruled plan t c) t =
    grown_more plan capacity [] (empty (length plan)) calls c
    ∙ ap₂ (λ a x. unless a (ruled plan x c) x) (sym (runs_answer plan capacity calls t k c)) (sym k.tree) in
    subst (Kept plan capacity (calls ++ c ∷ [])) e (runs_keep plan capacity (calls ++ c ∷ []))

pub enter_at_capacity : EnterAtCapacity
enter_at_capacity plan capacity rows n v proper new room =
    ap (λ a. a else when (lists n rows) 21 else when (leb capacity (length rows)) 23) proper
    ∙ ap (λ t. when t 21 else when (leb capacity (length rows)) 23) new
    ∙ ap (λ t. when t 23) (full (cases_eq (length rows) capacity))
  where
    full : (length rows ≡ capacity) ⊎ (length rows ≡ capacity → ⊥) → leb capacity (length rows) ≡ eqb (length rows) capacity
    full (inl e) = le-leb capacity (length rows) (omega arith) ∙ sym (eq-eqb (length rows) capacity e)
    full (inr e) = lt-leb capacity (length rows) (omega arith) ∙ sym (ne_eqb (length rows) capacity e)
