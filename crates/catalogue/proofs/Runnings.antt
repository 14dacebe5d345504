-- The law over runs, from what one call does.
use Rattle.std.proofs.Common.{◌≡◌, ℕ, List, [], ◌∷◌, ◌++◌, length, IfOk, Some, None, Ok, Err, Option, Result, sym, ap, ◌∙◌, subst}
use Rattle.std.specs.Result.{result_ok}
use Rattle.rules.specs.Tree.{Tree, empty}
use Rattle.rules.specs.Refusals.{Refusal, of_fit}
use Rattle.rules.specs.Register.{Call, enters, answer, ruled, unless, registered, grown}
use Rattle.rules.specs.State.{Seen, void, standing, told, after}
use Rattle.rules.specs.Promise.{Kept}
use Rattle.rules.proofs.Runs.{runs_keep, runs_answer, runs_step, enter_at_capacity}
use Rattle.tree.specs.declared.index.Index.{Index}
use Rattle.tree.specs.Seen.{seen_index, index_boxes}
use Rattle.refusals.specs.declared.refusal.Refusal.{Refusal as Held}
use Rattle.refusals.specs.Refused.{numbered, refusal_of}
use Rattle.catalogue.specs.declared.catalogue.Catalogue.{Catalogue}
use Rattle.catalogue.specs.Seen.{seen_of, seen_tree}
use Rattle.catalogue.specs.Runs.{Does, MadeBy, KeptBy, RunsOn, AtCapacity, Started}

-- the tree of a run
abbrev tree_by : List ℕ → ℕ → List Call → Tree
tree_by plan capacity calls = grown plan capacity [] (empty (length plan)) calls

-- what is seen of a run answers as the register
pub seen_answer : (plan : List ℕ) (capacity : ℕ) (calls : List Call) (s : Seen) → s ≡ standing plan capacity (tree_by plan capacity calls) → (call : Call)
    → told s call ≡ answer plan capacity (registered plan capacity [] calls) call
seen_answer plan capacity calls s e call =
    ap (λ x. told x call) e ∙ runs_answer plan capacity calls (tree_by plan capacity calls) (runs_keep plan capacity calls) call

-- and goes on as the run does
pub seen_after : (plan : List ℕ) (capacity : ℕ) (calls : List Call) (s : Seen) → s ≡ standing plan capacity (tree_by plan capacity calls) → (call : Call)
    → after s call ≡ standing plan capacity (tree_by plan capacity (calls ++ call ∷ []))
seen_after plan capacity calls s e call =
    let t = tree_by plan capacity calls in
    ap (λ x. after x call) e
    ∙ ap (λ a. standing plan capacity (unless a (ruled plan t call) t)) (runs_answer plan capacity calls t (runs_keep plan capacity calls) call)
    ∙ ap (standing plan capacity) (sym (runs_step plan capacity [] (empty (length plan)) calls call).2)

kept_seen : (plan : List ℕ) (capacity : ℕ) (calls : List Call) (s : Seen) → s ≡ standing plan capacity (tree_by plan capacity calls) → Kept plan capacity calls (seen_tree s)
kept_seen plan capacity calls s e = subst (λ x. Kept plan capacity calls (seen_tree x)) (sym e) (runs_keep plan capacity calls)

pub made_kept : (plan : List ℕ) (capacity : ℕ) (calls : List Call) (c : Catalogue) → MadeBy plan capacity calls c → KeptBy plan capacity calls c
made_kept plan capacity calls c m = kept_seen plan capacity calls (seen_of c) m.seen

pub runs_on : (c e : Catalogue) (call : Call) (refusal : Option Refusal) → Does c e call refusal → RunsOn c e call refusal
runs_on c e call refusal d plan capacity calls m =
    let next : MadeBy plan capacity (calls ++ call ∷ []) e = record {
      fit = ap (of_fit plan capacity) d.boxes ∙ m.fit;
      seen = d.seen ∙ seen_after plan capacity calls (seen_of c) m.seen call;
    } in
    (d.told ∙ seen_answer plan capacity calls (seen_of c) m.seen call, next, made_kept plan capacity (calls ++ call ∷ []) e next)

pub at_capacity : (c e : Catalogue) (n : ℕ) (v : List ℕ) (refusal : Option Refusal) → Does c e (enters n v) refusal → AtCapacity c n v refusal
at_capacity c e n v refusal d plan capacity calls m proper new =
    d.told ∙ seen_answer plan capacity calls (seen_of c) m.seen (enters n v)
    ∙ enter_at_capacity plan capacity (registered plan capacity [] calls) n v proper new (runs_keep plan capacity calls).room

-- ---- a catalogue with an index
abbrev pub opened : Index → Catalogue
opened x = record { index = Some x }

-- ---- a start
pub start_leaves : (plan : List ℕ) (capacity boxes : ℕ) (r : Result Index Held) → refusal_of r ≡ of_fit plan capacity boxes
    → IfOk r (λ x. (seen_index x ≡ standing plan capacity (empty (length plan))) × (index_boxes x ≡ boxes)) → Started plan capacity boxes (record { index = result_ok r })
start_leaves plan capacity boxes (Err e) told made = record {
  seen = ap (λ a. unless a (standing plan capacity (empty (length plan))) void) told;
  made = λ fit. let z : Some (numbered e) ≡ None = told ∙ fit in absurd (cc);
}
start_leaves plan capacity boxes (Ok x) told made = record {
  seen = made.0 ∙ ap (λ a. unless a (standing plan capacity (empty (length plan))) void) told;
  made = λ fit.
      let m : MadeBy plan capacity [] (opened x) = record { fit = ap (of_fit plan capacity) made.1 ∙ fit; seen = made.0 } in
      (m, made_kept plan capacity [] (opened x) m);
}
