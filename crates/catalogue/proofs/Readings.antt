-- What is saved and counted of an index.
use Rattle.std.proofs.Common.{◌≡◌, ℕ, ◌-◌, ◌<◌, ◌≤◌, Bool, true, false, cond, not, ◌&&◌, eqb, leb, List, [], ◌∷◌, ◌++◌, length, take, drop, is_some, ok_or, IfSome, Some, None, Option, unwrap_or, sym, refl, ap, ◌∙◌, subst, ap₂, arith, MatchOption}
use Rattle.std.specs.List.{AllByRecursion}
use Rattle.std.proofs.lemmas.List.{length-map}
use Rattle.std.proofs.ByRecursion.{All-weaker}
use Rattle.std.proofs.lemmas.Bool.{false≢true, eqb-true, le-leb, leb-true, leb-false, le-ltb, lt-ltb, and_from}
use Rattle.space.specs.Boxes.{dimensions, given}
use Rattle.space.specs.Plans.{plan_fault, letter_fault, vector_fault}
use Rattle.space.specs.declared.plan.ClipFault.TheVariants.{Dimensions}
use Rattle.space.specs.Row.{Row, stored_rows}
use Rattle.space.specs.declared.clip.StoredClip.{StoredClip}
use Rattle.ranked.proofs.Sames.{all_same, length_same}
use Rattle.measures.specs.Counts.{of_plan, limits, countable}
use Rattle.rules.specs.Tree.{empty, rows_in}
use Rattle.rules.specs.Rows.{rising}
use Rattle.rules.specs.File.{saved, file_rows, of_load}
use Rattle.rules.specs.Register.{registered, grown}
use Rattle.rules.proofs.RoundTrip.{runs_save}
use Rattle.rules.proofs.Runs.{runs_keep}
use Rattle.rules.specs.Refusals.{refused_at, when, of_save, of_count}
use Rattle.rules.proofs.Risings.{rising_same}
use Rattle.file.specs.Writes.{written, file_length, written_length, output_after}
use Rattle.file.proofs.Writings.{written_saves}
use Rattle.tree.specs.declared.index.Index.{Index}
use Rattle.tree.specs.Seen.{plan_of, seen_index, tree_in}
use Rattle.tree.proofs.Starts.{fit_open}
use Rattle.refusals.specs.Refused.{refusal_of}
use Rattle.refusals.specs.declared.fault.StateFault.TheVariants.{Output}
use Rattle.refusals.specs.declared.refusal.Refusal.TheVariants as held
use Rattle.ranked.specs.Same.{Same}
use Rattle.catalogue.specs.declared.catalogue.Catalogue.{Catalogue}
use Rattle.catalogue.specs.Seen.{seen_of, boxes_of, seen_tree}
use Rattle.catalogue.specs.Reads.{SavedAs, saved_of, LoadsBack}
use Rattle.tree.specs.Listing.{Front, Listed}
use Rattle.tree.proofs.Wholes.{whole_of, few}

-- a list with room for every index is given all its clips
pub all_listed : (x : Index) (rows : List Row) (A B : List StoredClip) (r : Option ℕ) (n : ℕ) → Listed x rows A B r → length A ≡ 4096 → n ≡ unwrap_or r 0
    → (n ≡ length (rows_in (tree_in x))) × (stored_rows (length (plan_of x)) (take (n - 0) B) ≡ rows) × (n ≤ 4096)
all_listed x rows A B r n w long e =
    let m = length (rows_in (tree_in x)) in
    let some : length (rows_in (tree_in x)) ≤ 4096 = omega (arith, few x, (whole_of x).count) in
    let is : r ≡ Some (length (rows_in (tree_in x))) = w.count ∙ ap (λ t. given t (length (rows_in (tree_in x)))) (le-leb (length (rows_in (tree_in x))) (length A) (omega arith)) in
    let k : n ≡ length (rows_in (tree_in x)) = e ∙ ap (λ o. unwrap_or o 0) is in
    let f : Front (length (plan_of x)) rows A B (length (rows_in (tree_in x))) = subst (λ o. MatchOption o (B ≡ A) (Front (length (plan_of x)) rows A B)) is w.front in
    let z : n - 0 ≡ length (rows_in (tree_in x)) = omega arith in
    (k, ap (λ j. stored_rows (length (plan_of x)) (take j B)) z ∙ f.clips, omega arith)

proper_wide : (plan v : List ℕ) → is_some (vector_fault plan v) ≡ false → length v ≡ length plan
proper_wide plan v e = go (eqb (length v) (length plan)) refl e
  where
    go : (t : Bool) → eqb (length v) (length plan) ≡ t → is_some (cond t (letter_fault 1 plan v) (Some Dimensions)) ≡ false → length v ≡ length plan
    go true p q = eqb-true (length v) (length plan) p
    go false p q = absurd (false≢true (sym q))

-- ---- the file of an index
module _ (x : Index) (clips : List StoredClip) (room : ℕ) (is : stored_rows (length (plan_of x)) clips ≡ rising (rows_in (tree_in x))) (axes : dimensions (length (plan_of x)) ≡ true) where
  file : written (plan_of x) (stored_rows (length (plan_of x)) clips) ≡ saved (plan_of x) (rows_in (tree_in x))
  file = ap (written (plan_of x)) is ∙ written_saves.0 (plan_of x) (rows_in (tree_in x))

  many : length clips ≡ length (rows_in (tree_in x))
  many = sym (length-map clips _) ∙ ap length is ∙ sym (length_same (rising_same (rows_in (tree_in x))))

  long : length (saved (plan_of x) (rows_in (tree_in x))) ≡ file_length (length (plan_of x)) (length clips)
  long =
      ap length (sym (written_saves.0 (plan_of x) (rows_in (tree_in x))))
      ∙ written_saves.1 (plan_of x) (rising (rows_in (tree_in x))) (all_same (λ r. length r.letters ≡ length (plan_of x)) (rising_same (rows_in (tree_in x))) (All-weaker (λ r. is_some (vector_fault (plan_of x) r.letters) ≡ false) (λ r. length r.letters ≡ length (plan_of x)) (λ r. proper_wide (plan_of x) r.letters) (rows_in (tree_in x)) (whole_of x).proper))
      ∙ ap (file_length (length (plan_of x))) (sym (length_same (rising_same (rows_in (tree_in x)))) ∙ sym many)

  fits : leb (length clips) 65535 ≡ true
  fits = le-leb (length clips) 65535 (omega (arith, many, few x, (whole_of x).count))

  value_is : written_length (length (plan_of x)) (length clips) room ≡ given (leb (file_length (length (plan_of x)) (length clips)) room) (file_length (length (plan_of x)) (length clips))
  value_is = ap₂ (λ s t. given (s && (t && leb (file_length (length (plan_of x)) (length clips)) room)) (file_length (length (plan_of x)) (length clips))) axes fits

  save_done : (k : ℕ) → Some k ≡ written_length (length (plan_of x)) (length clips) room → k ≡ length (written (plan_of x) (stored_rows (length (plan_of x)) clips))
      → (None ≡ of_save (length (saved (plan_of x) (rows_in (tree_in x)))) room) × (k ≡ length (saved (plan_of x) (rows_in (tree_in x))))
  save_done k e n = (sym (ap (λ t. when t 27) (le-ltb room (length (saved (plan_of x) (rows_in (tree_in x)))) (room_for (e ∙ value_is)))), n ∙ ap length file)
    where
      room_for : Some k ≡ given (leb (file_length (length (plan_of x)) (length clips)) room) (file_length (length (plan_of x)) (length clips)) → length (saved (plan_of x) (rows_in (tree_in x))) ≤ room
      room_for q = go (leb (file_length (length (plan_of x)) (length clips)) room) refl q
        where
          go : (t : Bool) → leb (file_length (length (plan_of x)) (length clips)) room ≡ t → Some k ≡ given t (file_length (length (plan_of x)) (length clips)) → length (saved (plan_of x) (rows_in (tree_in x))) ≤ room
          go true p s = omega (arith, leb-true (file_length (length (plan_of x)) (length clips)) room p, long)
          go false p s = absurd (let z : ◌≡◌ {A = ℕ} 0 1 = cc in omega arith)

  save_short : None ≡ written_length (length (plan_of x)) (length clips) room → Some (refused_at 27 0 0) ≡ of_save (length (saved (plan_of x) (rows_in (tree_in x)))) room
  save_short e = sym (ap (λ t. when t 27) (lt-ltb room (length (saved (plan_of x) (rows_in (tree_in x)))) (go (leb (file_length (length (plan_of x)) (length clips)) room) refl (e ∙ value_is))))
    where
      go : (t : Bool) → leb (file_length (length (plan_of x)) (length clips)) room ≡ t → None ≡ given t (file_length (length (plan_of x)) (length clips)) → room < length (saved (plan_of x) (rows_in (tree_in x)))
      go true p s = absurd (let z : ◌≡◌ {A = ℕ} 0 1 = cc in omega arith)
      go false p s = omega (arith, leb-false (file_length (length (plan_of x)) (length clips)) room p, long)

  save_bytes : (output : List ℕ) (k : ℕ) → k ≡ length (saved (plan_of x) (rows_in (tree_in x))) → output_after (plan_of x) clips output (Some k) ≡ saved (plan_of x) (rows_in (tree_in x)) ++ drop k output
  save_bytes output k n = ap₂ (λ b m. b ++ drop m output) file (ap length file ∙ sym n)

  -- what is answered and written, whether there was room or not
  pub save_answer : (o : Option ℕ) → o ≡ written_length (length (plan_of x)) (length clips) room → IfSome o (λ k. k ≡ length (written (plan_of x) (stored_rows (length (plan_of x)) clips)))
      → (refusal_of (ok_or o (held.State Output)) ≡ of_save (length (saved (plan_of x) (rows_in (tree_in x)))) room)
      × ((output : List ℕ) → SavedAs (seen_index x) output (output_after (plan_of x) clips output o) (ok_or o (held.State Output)))
  save_answer None e n = (save_short e, λ output. refl)
  save_answer (Some k) e n = let d = save_done k e n in (d.0, λ output. (d.1, save_bytes output k d.1))

-- ---- the count of an index
module _ (x : Index) (plan : List ℕ) (clips : List StoredClip) (same : plan ≡ plan_of x) (is : stored_rows (length plan) clips ≡ rows_in (tree_in x)) where
  rows_of_plan : (rows : List Row) → AllByRecursion (λ r. is_some (vector_fault (plan_of x) r.letters) ≡ false) rows → of_plan (plan_of x) rows ≡ true
  rows_of_plan [] a = refl
  rows_of_plan (r ∷ rs) a = ap₂ (λ s t. not s && t) a.0 (rows_of_plan rs a.1)

  -- all but an empty one can be counted
  pub count_none : countable plan (stored_rows (length plan) clips) ≡ false → Some (refused_at 26 0 0) ≡ of_count (rows_in (tree_in x))
  count_none e = go (rows_in (tree_in x)) refl
    where
      test : countable (plan_of x) (rows_in (tree_in x)) ≡ false
      test = sym (ap₂ countable same is) ∙ e

      go : (rows : List Row) → rows_in (tree_in x) ≡ rows → Some (refused_at 26 0 0) ≡ of_count rows
      go [] q = refl
      go (r ∷ rs) q =
          let w = whole_of x in
          let n = ap length q in
          let some : 1 ≤ length (rows_in (tree_in x)) = omega (arith, n) in
          let most : length (rows_in (tree_in x)) ≤ 4096 = omega (arith, few x, w.count) in
          let yes : countable (plan_of x) (rows_in (tree_in x)) ≡ true
          = and_from (limits (plan_of x) (length (rows_in (tree_in x)))) (of_plan (plan_of x) (rows_in (tree_in x)))
          (and_from (not (is_some (plan_fault (plan_of x)))) _ (ap not w.fit) (and_from (leb 1 (length (rows_in (tree_in x)))) _ (le-leb 1 (length (rows_in (tree_in x))) some) (le-leb (length (rows_in (tree_in x))) 4096 most)))
          (rows_of_plan (rows_in (tree_in x)) w.proper) in
          absurd (false≢true (sym test ∙ yes))

-- ---- what is saved loads again
pub loads_back : (c : Catalogue) → LoadsBack c
loads_back c plan capacity calls m possible =
    let t = seen_tree (seen_of c) in
    let e : saved_of (seen_of c) ≡ saved plan (rows_in (grown plan capacity [] (empty (length plan)) calls)) = ap saved_of m.seen in
    let r = runs_save plan capacity calls (grown plan capacity [] (empty (length plan)) calls) (runs_keep plan capacity calls) possible (omega (arith, (fit_open plan capacity (boxes_of c) m.fit).most)) in
    (ap (of_load plan capacity []) e ∙ r.0, subst (λ f. Same (registered plan capacity [] calls) (file_rows plan f)) (sym e) r.1)
