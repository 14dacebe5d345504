-- An index when a clip is entered or withdrawn.
use Rattle.std.proofs.Common.{◌≡◌, ℕ, zero, suc, ◌+◌, ◌-◌, ◌*◌, ◌<◌, ◌≤◌, max, Bool, true, false, cond, not, ◌||◌, eqb, ltb, leb, List, [], ◌∷◌, ◌++◌, length, get_or, take, replicate, is_some, Some, None, Ok, Err, Option, sym, refl, ap, ◌∙◌, subst, ap₂, ⊎_elim, add-one, arith}
use native.Mathlib.Nat.{le-max_left, le-max_right}
use Rattle.std.specs.Option.{option_map}
use Rattle.std.specs.List.{AllByRecursion}
use Rattle.std.proofs.ByRecursion.{All-weaker}
use Rattle.std.proofs.lemmas.List.{get_or_append_left, get_or-append_right}
use Rattle.std.proofs.lemmas.Bool.{cases_lt, false≢true, ne_eqb, eqb-true, ltb-true, le-leb, lt-leb, le-ltb}
use Rattle.space.specs.Row.{Row, stored_row, stored_as}
use Rattle.space.specs.Plans.{vector_fault, clip_fault}
use Rattle.space.specs.declared.clip.StoredClip.{StoredClip}
use Rattle.space.specs.declared.plan.ClipFault.{ClipFault}
use Rattle.space.specs.declared.plan.ClipFault.TheVariants.{Number}
use Rattle.ranked.specs.Same.{Same}
use Rattle.ranked.proofs.Sames.{all_same, length_same}
use Rattle.rules.specs.Tree.{Tree, rows_in}
use Rattle.rules.specs.Rows.{lists, without}
use Rattle.rules.specs.Finds.{Once}
use Rattle.rules.specs.Enter.{entered}
use Rattle.rules.specs.Refusals.{Refusal, refused_at, when, ◌else◌, clip_refusal, bad_letter, of_clip, of_enter, of_withdraw}
use Rattle.rules.specs.Register.{Call, ruled, unless}
use Rattle.rules.specs.State.{standing, told}
use Rattle.rules.proofs.Faults.{faults_refuse}
use Rattle.rules.proofs.Answered.{clip_open}
use Rattle.rules.proofs.Rows.{entered_rows}
use Rattle.rules.proofs.Rankings.{once_same}
use Rattle.rules.proofs.Times.{times, unlisted_times, listed_times, single_once, once_single, length_without, times_without, all_without}
use Rattle.rules.proofs.Withdrawing.{withdrawing_keeps}
use Rattle.tree.specs.declared.node.Node.{Node}
use Rattle.tree.specs.declared.index.Index.{Index}
use Rattle.tree.specs.Nodes.{spot, Lettered, tree_of}
use Rattle.tree.specs.Leaving.{listed_in, EnteredClip}
use Rattle.tree.specs.Standing.{rows_of, Withdrew, Whole}
use Rattle.tree.specs.Seen.{plan_of, tree_in, seen_index}
use Rattle.tree.specs.Calls.{stored_unless, stored_or, Stays, Does}
use Rattle.tree.proofs.Standings.{entered_more, stands_entered}
use Rattle.tree.proofs.Starts.{padded}

-- ---- what a call leaves of an index
pub does_refused : (x : Index) (call : Call) (r : Refusal) → Some r ≡ told (seen_index x) call → Does x x call (Some r)
does_refused x call r e = record {
  told = e;
  seen = ap (λ a. standing (plan_of x) x.capacity (unless a (ruled (plan_of x) (tree_in x) call) (tree_in x))) e;
  boxes = refl;
  kept = λ _. refl;
}

pub does_done : (x y : Index) (call : Call) → None ≡ told (seen_index x) call → Stays x y → tree_in y ≡ ruled (plan_of x) (tree_in x) call → Does x y call None
does_done x y call e s t = record {
  told = e;
  seen = ap₂ (λ p c. standing p c (tree_in y)) s.plan s.capacity ∙ ap (standing (plan_of x) x.capacity) t
      ∙ ap (λ a. standing (plan_of x) x.capacity (unless a (ruled (plan_of x) (tree_in x) call) (tree_in x))) e;
  boxes = s.boxes;
  kept = λ h. absurd (false≢true h);
}

-- ---- numbers above the highest are not listed
pub none_above : (n top : ℕ) (rows : List Row) → AllByRecursion (λ r. r.number ≤ top) rows → top < n → lists n rows ≡ false
none_above n top [] a l = refl
none_above n top (r ∷ rs) a l = ap₂ (λ x y. x || y) (ne_eqb r.number n (λ e. omega (arith, a.0))) (none_above n top rs a.1 l)

-- the number is looked for below the root
pub listed_root : (x : Index) (n : ℕ) (r : Bool) → length (plan_of x) ≡ x.nodes.dims → r ≡ listed_in x.nodes.dims x.nodes.places.items (x.root.height + 1) n (spot x.root.place) → r ≡ lists n (rows_in (tree_in x))
unfolding listed_in
listed_root x n r d e =
    e ∙ ap (λ h. listed_in x.nodes.dims x.nodes.places.items h n (spot x.root.place)) (add-one x.root.height)
    ∙ ap (λ m. listed_in m x.nodes.places.items (suc x.root.height) n (spot x.root.place)) (sym d)

-- ---- one row more
module _ (d : ℕ) (t : Tree) (r : Row) (same : Same (r ∷ rows_in t) (rows_in (entered d t r))) where
  more_once : Once (rows_in t) → lists r.number (rows_in t) ≡ false → Once (rows_in (entered d t r))
  more_once once new = once_same (r ∷ rows_in t) (rows_in (entered d t r)) same (single_once (r ∷ rows_in t) single)
    where
      single : (m : ℕ) → times m (r ∷ rows_in t) ≤ 1
      single m = go (eqb r.number m) refl
        where
          go : (b : Bool) → eqb r.number m ≡ b → cond b 1 0 + times m (rows_in t) ≤ 1
          go true e = let z = eqb-true r.number m e in omega (arith, subst (λ n. times n (rows_in t) ≡ 0) z (unlisted_times r.number (rows_in t) new))
          go false e = omega (arith, once_single (rows_in t) once m)

  more_below : (top : ℕ) → AllByRecursion (λ x. x.number ≤ top) (rows_in t) → AllByRecursion (λ x. x.number ≤ max top r.number) (rows_in (entered d t r))
  more_below top a =
      all_same (λ x. x.number ≤ max top r.number) same
      (le-max_right top r.number, All-weaker (λ x. x.number ≤ top) (λ x. x.number ≤ max top r.number) (λ x h. omega (arith, le-max_left top r.number)) (rows_in t) a)

pub whole_entered : (plan : List ℕ) (c n top : ℕ) (N M : List Node) (F : List ℕ) (t h i : ℕ) (clip : StoredClip) (u g j : ℕ) → is_some (vector_fault plan (stored_row (length plan) clip).letters) ≡ false → Whole plan c n top N F t h i
    → EnteredClip (length plan) N M F t h i clip u g j → lists clip.number (rows_in (tree_of (length plan) N h i)) ≡ false → rows_of (length plan) N h i < c
    → Whole plan c (n + 1) (max top clip.number) M F u g j
whole_entered plan c n top N M F t h i clip u g j own w p new room =
    let d = length plan in
    let row = stored_row (length plan) clip in
    let before = tree_of (length plan) N h i in
    let same = entered_rows d before row w.stands.build in
    record {
      fit = w.fit;
      sizes = w.sizes;
      stands = stands_entered d c N M F t h i clip u g j w.stands p room;
      once = subst (λ x. Once (rows_in x)) (sym p.tree) (more_once d before row same w.once new);
      count = omega (arith, w.count, entered_more d c N M F t h i clip u g j w.stands p);
      below = subst (λ x. AllByRecursion (λ r. r.number ≤ max top clip.number) (rows_in x)) (sym p.tree) (more_below d before row same top w.below);
      proper = subst (λ x. AllByRecursion (λ r. is_some (vector_fault plan r.letters) ≡ false) (rows_in x)) (sym p.tree) (all_same (λ r. is_some (vector_fault plan r.letters) ≡ false) same (own, w.proper));
    }

-- ---- a row less
pub whole_left : (plan : List ℕ) (c n top : ℕ) (N M : List Node) (F G : List ℕ) (t h i number u g j : ℕ) → Whole plan c n top N F t h i
    → Withdrew (length plan) N M F G t h i number u g j → lists number (rows_in (tree_of (length plan) N h i)) ≡ true → Whole plan c (n - 1) top M G u g j
whole_left plan c n top N M F G t h i number u g j w p listed =
    let d = length plan in
    let before = tree_of (length plan) N h i in
    let same = (withdrawing_keeps d before number w.stands.build w.once listed).1 in
    let fewer = length_without number (rows_in before) in
    let one = listed_times number (rows_in before) listed in
    let single = once_single (rows_in before) w.once number in
    record {
      fit = w.fit;
      sizes = w.sizes;
      stands = p.stands c w.stands;
      once = subst (λ x. Once (rows_in x)) (sym p.tree) (once_same _ _ same (less_once number (rows_in before) w.once));
      count = omega (arith, w.count, ap (λ x. length (rows_in x)) p.tree, length_same same, fewer, one, single);
      below = subst (λ x. AllByRecursion (λ r. r.number ≤ top) (rows_in x)) (sym p.tree) (all_same (λ r. r.number ≤ top) same (all_without (λ r. r.number ≤ top) number (rows_in before) w.below));
      proper = subst (λ x. AllByRecursion (λ r. is_some (vector_fault plan r.letters) ≡ false) (rows_in x)) (sym p.tree)
          (all_same (λ r. is_some (vector_fault plan r.letters) ≡ false) same (all_without (λ r. is_some (vector_fault plan r.letters) ≡ false) number (rows_in before) w.proper));
    }
  where
    less_once : (n : ℕ) (rows : List Row) → Once rows → Once (without n rows)
    less_once n rows o = single_once (without n rows) (λ m. omega (arith, times_without m n rows, once_single rows o m))

-- an index without rows has none above 0
pub whole_empty : (plan : List ℕ) (c n top : ℕ) (N : List Node) (F : List ℕ) (t h i : ℕ) → n ≡ 0 → Whole plan c n top N F t h i → Whole plan c n 0 N F t h i
whole_empty plan c n top N F t h i e w = record {
  fit = w.fit;
  sizes = w.sizes;
  stands = w.stands;
  once = w.once;
  count = w.count;
  below = none (rows_in (tree_of (length plan) N h i)) (omega (arith, w.count));
  proper = w.proper;
}
  where
    none : (rows : List Row) → length rows ≡ 0 → AllByRecursion (λ r. r.number ≤ 0) rows
    none [] e = tt
    none (r ∷ rs) e = absurd (omega arith)

-- ---- the answers
stored_fault : (plan : List ℕ) (n : ℕ) (v : List ℕ) (f : ClipFault) → Err f ≡ stored_or plan n v → clip_fault plan n v ≡ Some f
stored_fault plan n v f e = go (clip_fault plan n v) e
  where
    go : (o : Option ClipFault) → Err f ≡ stored_unless o (record { number = n; letters = v }) → o ≡ Some f
    go None q = absurd (let z : ◌≡◌ {A = ℕ} 0 1 = cc in omega arith)
    go (Some g) q = cc

pub stored_fine : (plan : List ℕ) (n : ℕ) (v : List ℕ) (c : StoredClip) → Ok c ≡ stored_or plan n v → (of_clip plan n v ≡ None) × (c ≡ stored_as (record { number = n; letters = v })) × (is_some (vector_fault plan v) ≡ false)
stored_fine plan n v c e = let g = go (clip_fault plan n v) e in (sym (faults_refuse.2 plan n v) ∙ ap (option_map clip_refusal) g.0, g.1, own (eqb n 0) g.0)
  where
    go : (o : Option ClipFault) → Ok c ≡ stored_unless o (record { number = n; letters = v }) → (o ≡ None) × (c ≡ stored_as (record { number = n; letters = v }))
    go None q = (refl, cc)
    go (Some g) q = absurd (let z : ◌≡◌ {A = ℕ} 0 1 = cc in omega arith)

    own : (t : Bool) → cond t (Some Number) (vector_fault plan v) ≡ None → is_some (vector_fault plan v) ≡ false
    own true q = absurd (let z : ◌≡◌ {A = ℕ} 0 1 = cc in omega arith)
    own false q = ap is_some q

module _ (plan : List ℕ) (c : ℕ) (rows : List Row) (n : ℕ) (v : List ℕ) where
  enter_by : (a : Option Refusal) (b t : Bool) → of_clip plan n v ≡ a → lists n rows ≡ b → leb c (length rows) ≡ t → of_enter plan c rows n v ≡ (a else when b 21 else when t 23)
  enter_by a b t p q r = cc

  pub enter_fault : (f : ClipFault) → Err f ≡ stored_or plan n v → Some (clip_refusal f) ≡ of_enter plan c rows n v
  enter_fault f e = sym (enter_by _ _ _ (sym (faults_refuse.2 plan n v) ∙ ap (option_map clip_refusal) (stored_fault plan n v f e)) refl refl)

  pub enter_listed : of_clip plan n v ≡ None → lists n rows ≡ true → Some (refused_at 21 0 0) ≡ of_enter plan c rows n v
  enter_listed p q = sym (enter_by _ _ _ p q refl)

  pub enter_full : of_clip plan n v ≡ None → lists n rows ≡ false → c ≤ length rows → Some (refused_at 23 0 0) ≡ of_enter plan c rows n v
  enter_full p q l = sym (enter_by _ _ _ p q (le-leb c (length rows) l))

  pub enter_fine : of_clip plan n v ≡ None → lists n rows ≡ false → length rows < c → None ≡ of_enter plan c rows n v
  enter_fine p q l = sym (enter_by _ _ _ p q (lt-leb c (length rows) l))

module _ (rows : List Row) (n words : ℕ) where
  withdraw_by : (a b t : Bool) → eqb n 0 ≡ a → lists n rows ≡ b → ltb words (2 * length rows) ≡ t → of_withdraw rows n words ≡ (when a 7 else when (not b) 22 else when t 24)
  withdraw_by a b t p q r = cc

  pub withdraw_fine : (n ≡ 0 → ⊥) → lists n rows ≡ true → 2 * length rows ≤ words → None ≡ of_withdraw rows n words
  withdraw_fine e q l = sym (withdraw_by false true false (ne_eqb n 0 e) q (le-ltb words (2 * length rows) l))

-- ---- a proper clip of a plan of sizes up to 64, stored
good_small : (i : ℕ) (plan v : List ℕ) → AllByRecursion (λ s. s ≤ 64) plan → bad_letter (suc i) plan v ≡ 0 → (k : ℕ) → get_or v k 0 < 64
good_small i plan [] a e k = omega arith
good_small i [] (l ∷ v) a e k = absurd (omega arith)
good_small i (s ∷ plan) (l ∷ v) a e zero = go (ltb l s) refl e
  where
    go : (t : Bool) → ltb l s ≡ t → cond t (bad_letter (suc (suc i)) plan v) (suc i) ≡ 0 → l < 64
    go true p q = omega (arith, ltb-true l s p, a.0)
    go false p q = absurd (omega arith)
good_small i (s ∷ plan) (l ∷ v) a e (suc k) = good_small (suc i) plan v a.1 (go (ltb l s) e) k
  where
    go : (t : Bool) → cond t (bad_letter (suc (suc i)) plan v) (suc i) ≡ 0 → bad_letter (suc (suc i)) plan v ≡ 0
    go true q = q
    go false q = absurd (omega arith)

pub stored_row_lem : (plan : List ℕ) (n : ℕ) (v : List ℕ) (c : StoredClip) → length plan ≤ 10 → AllByRecursion (λ s. s ≤ 64) plan → of_clip plan n v ≡ None → c ≡ stored_as (record { number = n; letters = v })
    → Lettered c × (stored_row (length plan) c ≡ record { number = n; letters = v })
stored_row_lem plan n v c ten small e is =
    let p = clip_open plan n v e in
    let l : length v ≡ length plan = p.1 in
    let low : Lettered (stored_as (record { number = n; letters = v })) = λ k. pad (good_small 0 plan v small p.2) k in
    (subst Lettered (sym is) low, ap (stored_row (length plan)) is ∙ ap (λ (x : List ℕ). record { number = n; letters = x }) (ap (λ m. take m (v ++ replicate (10 - length v) 0)) (sym l) ∙ padded v (omega arith)))
  where
    zeros : (m k : ℕ) → get_or (replicate m 0) k 0 < 64
    zeros zero k = omega arith
    zeros (suc m) zero = omega arith
    zeros (suc m) (suc k) = zeros m k

    pad : ((k : ℕ) → get_or v k 0 < 64) → (k : ℕ) → get_or (v ++ replicate (10 - length v) 0) k 0 < 64
    pad f k = ⊎_elim (λ h. subst (λ x. x < 64) (sym (get_or_append_left v (replicate (10 - length v) 0) 0 k h)) (f k))
        (λ h. subst (λ x. x < 64) (sym (get_or-append_right v (replicate (10 - length v) 0) (length v) k 0 refl h)) (zeros (10 - length v) (k - length v))) (cases_lt k (length v))
