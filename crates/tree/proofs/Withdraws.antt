-- A number taken out below a node.
use Rattle.std.proofs.Common.{◌≡◌, ℕ, zero, suc, ◌+◌, ◌<◌, ◌≤◌, List, [], ◌∷◌, ◌++◌, map, length, sym, refl, ap, ◌∙◌, subst, ap₂, arith}
use Rattle.std.specs.List.{flat_map, AllByRecursion}
use Rattle.std.proofs.lemmas.List.{length-take, map-append, append-nil}
use Rattle.rules.specs.Tree.{boxed, rows_below}
use Rattle.tree.specs.declared.node.NodeEntry.{NodeEntry}
use Rattle.tree.specs.declared.node.Node.{Node}
use Rattle.tree.specs.Nodes.{spot, node, inside, place_in, entry_of, Sound, one, total, times, Written}
use Rattle.space.specs.Row.{stored_row}
use Rattle.tree.specs.Leaving.{rows_of, kept, asides, clips_in, count_in, out_of, WithdrawnBelow}
use Rattle.tree.proofs.Frame.{one_self, Agree, Agrees, sounds_same}
use Rattle.tree.proofs.Writes.{put_length, put_other, put_at, put_agrees, put_entry, put_times}
use Rattle.tree.proofs.Siblings.{total_none, one_apart}
use Rattle.tree.proofs.Looks.{rows_first, kept_without, all_kept, length_kept}
use Rattle.tree.proofs.SetsAside.{length_joined_total}

-- ---- clips and counts read only their own nodes
module _ (N M : List Node) where
  below : (h : ℕ) (i : NodeEntry) → Agree N M (suc h) i → Agrees N M h (inside (node N (place_in i)))
  unfolding times
  below h i a k p = a k (omega arith)

  root_same : (h : ℕ) (i : NodeEntry) → Agree N M (suc h) i → node M (place_in i) ≡ node N (place_in i)
  unfolding times
  root_same h i a = a (place_in i) (omega (arith, one_self (place_in i)))

  clips_list : (h : ℕ) → ((i : NodeEntry) → Agree N M h i → clips_in M h i ≡ clips_in N h i) → (es : List NodeEntry) → Agrees N M h es → flat_map (clips_in M h) es ≡ flat_map (clips_in N h) es
  clips_list h ih [] a = refl
  clips_list h ih (e ∷ es) a = ap₂ (λ x y. x ++ y) (ih e (λ k q. a k (omega arith))) (clips_list h ih es (λ k q. a k (omega arith)))

  pub clips_frame : (h : ℕ) (i : NodeEntry) → Agree N M h i → clips_in M h i ≡ clips_in N h i
  unfolding clips_in
  clips_frame zero i a = refl
  clips_frame (suc h) i a = ap (λ n. flat_map (clips_in M h) (inside n)) (root_same h i a) ∙ clips_list h (clips_frame h) (inside (node N (place_in i))) (below h i a)

  pub measure_same : (h : ℕ) (f g : NodeEntry → ℕ) → ((i : NodeEntry) → Agree N M h i → g i ≡ f i) → (es : List NodeEntry) → Agrees N M h es → total g es ≡ total f es
  measure_same h f g ih [] a = refl
  measure_same h f g ih (e ∷ es) a = omega (arith, ih e (λ k q. a k (omega arith)), measure_same h f g ih es (λ k q. a k (omega arith)))

  pub count_frame : (h : ℕ) (i : NodeEntry) → Agree N M h i → count_in M h i ≡ count_in N h i
  unfolding count_in
  count_frame zero i a = refl
  count_frame (suc h) i a =
      ap (λ n. 1 + total (count_in M h) (inside n)) (root_same h i a) ∙ ap (λ n. 1 + n) (measure_same h (count_in N h) (count_in M h) (count_frame h) (inside (node N (place_in i))) (below h i a))

clips_long_frame : (N M : List Node) (h : ℕ) (i : NodeEntry) → Agree N M h i → length (clips_in M h i) ≡ length (clips_in N h i)
clips_long_frame N M h i a = ap length (clips_frame N M h i a)

-- the rows of the clips of a tree
rows_list : (d : ℕ) (N : List Node) (h : ℕ) → ((e : NodeEntry) → map (stored_row d) (clips_in N h e) ≡ rows_of h (entry_of d N h e)) → (es : List NodeEntry)
    → map (stored_row d) (flat_map (clips_in N h) es) ≡ rows_below h (map (entry_of d N h) es)
rows_list d N zero ih [] = refl
rows_list d N (suc h) ih [] = refl
rows_list d N h ih (e ∷ es) =
    map-append (stored_row d) (clips_in N h e) (flat_map (clips_in N h) es) ∙ ap₂ (λ x y. x ++ y) (ih e) (rows_list d N h ih es) ∙ sym (rows_first h (entry_of d N h e) (map (entry_of d N h) es))

pub clips_rows : (d : ℕ) (N : List Node) (h : ℕ) (e : NodeEntry) → map (stored_row d) (clips_in N h e) ≡ rows_of h (entry_of d N h e)
unfolding clips_in entry_of
clips_rows d N zero e = refl
clips_rows d N (suc h) e = rows_list d N h (clips_rows d N h) (inside (node N (place_in e)))

-- ---- what a node made of some entries counts
module _ (N : List Node) (h i : ℕ) where
  pub clips_at : length (clips_in N (suc h) (spot i)) ≡ total (λ e. length (clips_in N h e)) (inside (node N i))
  unfolding clips_in
  clips_at = length_joined_total (clips_in N h) (inside (node N i))

  pub count_at : count_in N (suc h) (spot i) ≡ 1 + total (count_in N h) (inside (node N i))
  unfolding count_in
  count_at = refl

  pub times_at : (k : ℕ) → times N (suc h) (spot i) k ≡ one i k + total (λ e. times N h e k) (inside (node N i))
  unfolding times
  times_at k = refl

module _ (d : ℕ) (N M : List Node) (h i : ℕ) (es : List NodeEntry) (p : Written d N M h i es) (inN : i < length N) (free : total (λ e. times N h e i) es ≡ 0) where
  pub put_inside : inside (node M i) ≡ es
  put_inside = ap inside (put_at d N M h i es p inN) ∙ p.holds

  pub put_len : (node M i).len ≡ length es
  put_len = ap (λ n. n.len) (put_at d N M h i es p inN) ∙ p.long

  pub put_full : length (inside (node M i)) ≡ (node M i).len
  put_full = ap length put_inside ∙ sym put_len

  pub put_clips : length (clips_in M (suc h) (spot i)) ≡ total (λ e. length (clips_in N h e)) es
  put_clips =
      clips_at M h i ∙ ap (total (λ e. length (clips_in M h e))) put_inside
      ∙ measure_same N M h (λ e. length (clips_in N h e)) (λ e. length (clips_in M h e)) (clips_long_frame N M h) es (put_agrees d N M h i es p free)

  pub put_count : count_in M (suc h) (spot i) ≡ 1 + total (count_in N h) es
  put_count =
      count_at M h i ∙ ap (λ x. 1 + total (count_in M h) x) put_inside
      ∙ ap (λ n. 1 + n) (measure_same N M h (count_in N h) (count_in M h) (count_frame N M h) es (put_agrees d N M h i es p free))

  pub put_sounds : AllByRecursion (Sound N h) es → AllByRecursion (Sound M h) (inside (node M i))
  put_sounds s = subst (AllByRecursion (Sound M h)) (sym put_inside) (sounds_same N M (put_length d N M h i es p) h es (put_agrees d N M h i es p free) s)

-- ---- at a leaf
leaf_times : (N : List Node) (es : List NodeEntry) (k : ℕ) → total (λ e. times N 0 e k) es ≡ 0
unfolding times
leaf_times N es k = total_none es

leaf_count : (N : List Node) (es : List NodeEntry) → total (count_in N 0) es ≡ 0
unfolding count_in
leaf_count N es = total_none es

total_one : (es : List NodeEntry) → total (λ _. 1) es ≡ length es
total_one [] = refl
total_one (e ∷ es) = omega (arith, total_one es)

leaf_clips : (N : List Node) (es : List NodeEntry) → total (λ e. length (clips_in N 0 e)) es ≡ length es
unfolding clips_in
leaf_clips N es = total_one es

module _ (d : ℕ) (N M : List Node) (i number : ℕ) (W : List ℕ) (n : ℕ) (F : List ℕ) (t : ℕ) (inN : i < length N) (few : (node N i).len ≤ 8)
    (s : AllByRecursion (Sound N 0) (inside (node N i))) (p : Written d N M 0 i (kept number (inside (node N i)))) where
  abbrev stay : List NodeEntry
  stay = kept number (inside (node N i))

  free : total (λ e. times N 0 e i) stay ≡ 0
  free = leaf_times N stay i

  leaf_box : entry_of d M 1 (spot i) ≡ boxed d 0 (out_of d N 0 i number).0
  unfolding entry_of
  leaf_box = put_entry d N M 0 i stay p inN free ∙ ap (boxed d 0) (kept_without d N number (inside (node N i)))

  pub leaf_taken : WithdrawnBelow d N M 0 i number W W n n F F t t
  leaf_taken = record {
    long = put_length d N M 0 i stay p;
    box = leaf_box;
    aside = sym (append-nil (map (stored_row d) (asides W n)));
    words = refl;
    clips = omega (arith, put_clips d N M 0 i stay p inN free, leaf_clips N stay, clips_at N 0 i, leaf_clips N (inside (node N i)), length_kept number (inside (node N i)));
    freed = λ k. omega (arith, put_times d N M 0 i stay p inN free k, leaf_times N stay k, times_at N 0 i k, leaf_times N (inside (node N i)) k);
    boxes = omega (arith, put_count d N M 0 i stay p inN free, leaf_count N stay, count_at N 0 i, leaf_count N (inside (node N i)));
    free = refl;
    low = omega arith;
    frame = λ k z. put_other d N M 0 i stay p k (one_apart i k (omega (arith, times_at N 0 i k)));
    fewer = λ k. omega (arith, put_times d N M 0 i stay p inN free k, leaf_times N stay k, times_at N 0 i k);
    least = λ ne. absurd (ne refl);
    few = omega (arith, put_len d N M 0 i stay p inN free, length_kept number (inside (node N i)), length-take (node N i).len (node N i).entries);
    full = put_full d N M 0 i stay p inN free;
    sound = put_sounds d N M 0 i stay p inN free (all_kept (Sound N 0) number (inside (node N i)) s);
  }
