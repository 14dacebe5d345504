-- An index as it is started.
use Rattle.std.proofs.Common.{◌≡◌, ℕ, suc, ◌+◌, ◌-◌, ◌/◌, ◌<◌, ◌≤◌, max, Bool, true, false, cond, not, ◌&&◌, ltb, leb, List, [], ◌∷◌, ◌++◌, length, get_or, take, replicate, is_some, Some, None, Option, sym, refl, ap, ◌∙◌, subst, ap₂, arith}
use Rattle.std.specs.Option.{option_map}
use Rattle.std.specs.List.{AllByRecursion}
use Rattle.std.proofs.lemmas.List.{take-append-le, take_all}
use Rattle.std.proofs.lemmas.Bool.{and_parts, leb-true, ltb-false}
use Rattle.std.proofs.lemmas.Bool.Decides.{nat_tests}
use Rattle.space.specs.Boxes.{dimensions}
use Rattle.space.specs.Plans.{plan_fault, vector_fault}
use Rattle.space.specs.declared.plan.PlanFault.{PlanFault}
use Rattle.rules.specs.Refusals.{plan_refusal, when, bad_size, of_sizes, of_fit}
use Rattle.rules.specs.Tree.{Tree, rows_in, empty}
use Rattle.rules.specs.Build.{Build}
use Rattle.rules.specs.State.{standing}
use Rattle.rules.proofs.Builds.{empty_build}
use Rattle.rules.proofs.Faults.{faults_refuse}
use Rattle.rules.proofs.Refused.{some_none, else_none, when_none, when_at_none}
use Rattle.tree.specs.declared.node.Node.{Node}
use Rattle.tree.specs.declared.table.Table.{Table}
use Rattle.tree.specs.Nodes.{one, total, tree_of, Written}
use Rattle.tree.specs.Leaving.{stock, EachOnce}
use Rattle.tree.specs.Standing.{reserve, Whole}
use Rattle.tree.specs.Tables.{table_boxes}
use Rattle.tree.proofs.Writes.{put_length, put_entry, put_times, put_sound}

-- ---- what a plan, a capacity and a table that are fit have
pub record Fit (plan : List ℕ) (capacity boxes : ℕ) : Type 0 where
  pub fault : is_some (plan_fault plan) ≡ false
  pub some : 1 ≤ length plan
  pub axes : length plan ≤ 10
  pub sizes : AllByRecursion (λ s. s ≤ 64) plan
  pub most : capacity ≤ 4096
  pub room : max 1 (capacity / 2) ≤ boxes

not-false : (t : Bool) → not t ≡ false → t ≡ true
not-false true e = refl
not-false false e = sym e

sizes_small : (i : ℕ) (plan : List ℕ) → bad_size (suc i) plan ≡ 0 → AllByRecursion (λ s. s ≤ 64) plan
sizes_small i [] e = tt
sizes_small i (s ∷ plan) e = go (leb 1 s) (leb s 64) (sizes_small (suc i) plan) refl e
  where
    go : (a b : Bool) → (bad_size (suc (suc i)) plan ≡ 0 → AllByRecursion (λ s. s ≤ 64) plan) → leb s 64 ≡ b → cond (a && b) (bad_size (suc (suc i)) plan) (suc i) ≡ 0 → AllByRecursion (λ s. s ≤ 64) (s ∷ plan)
    go true true more p q = (leb-true s 64 p, more q)
    go true false more p q = absurd (omega arith)
    go false b more p q = absurd (omega arith)

unrefused : (f : Option PlanFault) → option_map plan_refusal f ≡ None → is_some f ≡ false
unrefused None e = refl
unrefused (Some f) e = absurd (some_none (plan_refusal f) e)

pub fit_open : (plan : List ℕ) (capacity boxes : ℕ) → of_fit plan capacity boxes ≡ None → Fit plan capacity boxes
fit_open plan capacity boxes e =
    let a = else_none (of_sizes plan) _ e in
    let b = else_none (when (not (leb 1 capacity && leb capacity 4096)) 2) _ a.1 in
    let p = else_none (when (not (dimensions (length plan))) 1) _ a.0 in
    let d = and_parts (leb 1 (length plan)) _ (not-false _ (when_none _ 1 p.0)) in
    let c = and_parts (leb 1 capacity) _ (not-false _ (when_none _ 2 b.0)) in
    record {
      fault = unrefused (plan_fault plan) (faults_refuse.0 plan ∙ a.0);
      some = leb-true 1 (length plan) d.0;
      axes = leb-true (length plan) 10 d.1;
      sizes = sizes_small 0 plan (when_at_none 1 (bad_size 1 plan) 0 p.1);
      most = leb-true capacity 4096 c.1;
      room = ltb-false boxes (max 1 (capacity / 2)) (when_none _ 3 b.1);
    }

-- ---- a stack of all places
tally : (F : List ℕ) (a k : ℕ) → ((j : ℕ) → j < length F → get_or F j 0 ≡ a + j) → total (λ e. one e k) F ≡ cond (leb a k) (cond (ltb k (a + length F)) 1 0) 0
tally [] a k h = grind (arith, nat_tests)
tally (x ∷ F) a k h =
    let e : x ≡ a = h 0 (omega arith) ∙ omega arith in
    let more : total (λ e. one e k) F ≡ cond (leb (a + 1) k) (cond (ltb k (a + 1 + length F)) 1 0) 0 = tally F (a + 1) k (λ j l. h (suc j) (omega arith) ∙ omega arith) in
    grind (arith, nat_tests)

-- ---- the empty leaf at place 0
pub padded : (v : List ℕ) → length v ≤ 10 → take (length v) (v ++ replicate (10 - length v) 0) ≡ v
padded v l = take-append-le (length v) v (replicate (10 - length v) 0) (omega arith) ∙ take_all (length v) v (omega arith)

module _ (plan : List ℕ) (capacity : ℕ) (N M : List Node) (F : List ℕ) (fit : Fit plan capacity (length N - reserve)) (room : reserve ≤ length N)
    (stack : length F ≡ length N) (each : (k : ℕ) → k < length N → get_or F k 0 ≡ k) (w : Written (length plan) N M 0 0 []) where
  here : 0 < length N
  here = omega arith

  pub start_tree : tree_of (length plan) M 0 0 ≡ empty (length plan)
  start_tree = let tree : _ → Tree = λ b. (0, b) in ap tree (put_entry (length plan) N M 0 0 [] w here refl)

  places : EachOnce M F 1 0 0
  places k =
      let t = put_times (length plan) N M 0 0 [] w here refl k in
      let all = tally F 0 k (λ j l. each j (omega arith) ∙ omega arith) in
      let e : ◌≡◌ {A = ℕ} (cond (leb 0 k) (cond (ltb k (0 + length F)) 1 0) 0) (cond (ltb k (length M)) 1 0) = ap₂ (λ t n. cond t (cond (ltb k n) 1 0) 0) always (omega (arith, put_length (length plan) N M 0 0 [] w)) in
      omega (arith, t, all, e, split F (omega arith) (each 0 here))
    where
      always : leb 0 k ≡ true
      always = grind (arith, nat_tests)

      split : (G : List ℕ) → 0 < length G → get_or G 0 0 ≡ 0 → total (λ e. one e k) G ≡ one 0 k + stock G 1 k
      split [] l e = absurd (omega arith)
      split (g ∷ G) l e = ap (λ x. one x k + total (λ e. one e k) G) e

  pub start_whole : Whole plan capacity 0 0 M F 1 0 0
  start_whole =
      let none : rows_in (tree_of (length plan) M 0 0) ≡ [] = ap rows_in start_tree in
      record {
        fit = fit.fault;
        sizes = fit.sizes;
        stands = record {
          axes = fit.axes;
          most = fit.most;
          room = omega (arith, fit.room, put_length (length plan) N M 0 0 [] w);
          stack = stack ∙ sym (put_length (length plan) N M 0 0 [] w);
          sound = put_sound (length plan) N M 0 0 [] w here (omega arith) (omega arith) refl tt;
          spread = places;
          high = omega arith;
          build = subst (Build (length plan)) (sym start_tree) (empty_build (length plan));
          rows = omega (arith, ap length none);
        };
        once = λ i j r h l. absurd (omega (arith, ap length none));
        count = omega (arith, ap length none);
        below = subst (AllByRecursion (λ r. r.number ≤ 0)) (sym none) tt;
        proper = subst (AllByRecursion (λ r. is_some (vector_fault plan r.letters) ≡ false)) (sym none) tt;
      }

-- the same of a table whose first box was written
pub started : (plan : List ℕ) (capacity boxes : ℕ) (t : Table) (M : List Node) (ten : List ℕ) → None ≡ of_fit plan capacity boxes → boxes ≡ table_boxes t
    → Written (length plan) t.nodes.items M 0 0 [] → ten ≡ plan ++ replicate (10 - length plan) 0 → let cut = take (length plan) ten in
    Whole cut capacity 0 0 M t.free.items 1 0 0 × (standing cut capacity (tree_of (length cut) M 0 0) ≡ standing plan capacity (empty (length plan)))
started plan capacity boxes t M ten told e w p =
    let N = t.nodes.items in
    let n : boxes ≡ length N - reserve = e ∙ ap (λ m. m - reserve) t.nodes.ok.0 in
    let fit : Fit plan capacity (length N - reserve) = subst (Fit plan capacity) n (fit_open plan capacity boxes (sym told)) in
    let stack : length t.free.items ≡ length N = sym t.free.ok.0 ∙ t.long ∙ t.nodes.ok.0 in
    let room : reserve ≤ length N = omega (arith, t.room, t.nodes.ok.0) in
    let each : (k : ℕ) → k < length N → get_or t.free.items k 0 ≡ k = λ k l. t.each k (omega (arith, t.nodes.ok.0)) in
    let cut : take (length plan) ten ≡ plan = ap (take (length plan)) p ∙ padded plan fit.axes in (
      subst (λ v. Whole v capacity 0 0 M t.free.items 1 0 0) (sym cut) (start_whole plan capacity N M t.free.items fit room stack each w),
      ap (λ v. standing v capacity (tree_of (length v) M 0 0)) cut ∙ ap (standing plan capacity) (start_tree plan capacity N M t.free.items fit room stack each w),
    )
