-- A number taken out below a node above the leaves: one of its entries has changed, or is taken out.
use Rattle.std.proofs.Common.{◌≡◌, ℕ, suc, ◌+◌, ◌*◌, ◌<◌, ◌≤◌, Bool, cond, ltb, List, ◌∷◌, ◌++◌, map, length, get_or, take, drop, set, sym, refl, ap, ◌∙◌, subst, ap₂, arith}
use Rattle.std.specs.List.{AllByRecursion}
use Rattle.std.proofs.lemmas.List.{length-map, length-append, length-take, length-drop, map-append, append_assoc, get_or-map, take-map, drop-map}
use Rattle.std.proofs.ByRecursion.{All-append, All-get_or, All-take, All-drop}
use Rattle.std.proofs.lemmas.Bool.{lt-ltb, le-ltb}
use Rattle.space.specs.Row.{Row}
use Rattle.rules.specs.Tree.{Box, Entry, boxed, rows_below}
use Rattle.rules.specs.Enter.{entries_at}
use Rattle.rules.specs.Withdraw.{holder, withdraw_below}
use Rattle.rules.proofs.Builds.{bare}
use Rattle.rules.proofs.Rows.{split_at}
use Rattle.tree.specs.declared.node.NodeEntry.{NodeEntry}
use Rattle.tree.specs.declared.node.Node.{Node}
use Rattle.tree.specs.Nodes.{no_entry, spot, node, inside, place_in, entry_of, Sound, one, total, times, Written}
use Rattle.space.specs.Row.{stored_row}
use Rattle.tree.specs.Leaving.{asides, clips_in, count_in, Within, SetAside, out_of, WithdrawnBelow}
use Rattle.tree.proofs.Frame.{one_self, times_spot, entry_spot, Agree, Agrees, entries_same, totals_same, sounds_same}
use Rattle.tree.proofs.Writes.{put_length, put_other, put_entry, put_times}
use Rattle.tree.proofs.Siblings.{total_append, total_at, one_apart, Rest, Once, one_changed, total_changed, sound_changed}
use Rattle.tree.proofs.Fits.{least_some}
use Rattle.tree.proofs.SetsAside.{all_within, within_from}
use Rattle.tree.proofs.Withdraws.{clips_frame, count_frame, measure_same, clips_rows, clips_at, count_at, times_at, put_len, put_full, put_clips, put_count, put_sounds}

-- ---- a list but one of its places
abbrev pub but : {E : Type 0} → ℕ → List E → List E
but p es = take p es ++ drop (suc p) es

pub total_but : {E : Type 0} (f : E → ℕ) (es : List E) (p : ℕ) (d : E) → p < length es → total f (but p es) + f (get_or es p d) ≡ total f es
total_but f es p d l =
    let w = ap (total f) (split_at es p d l) ∙ total_append f (take p es) (get_or es p d ∷ drop (suc p) es) in
    omega (arith, w, total_append f (take p es) (drop (suc p) es))

pub length_but : {E : Type 0} (es : List E) (p : ℕ) → length (but p es) ≤ length es
length_but es p = omega (arith, length-append (take p es) (drop (suc p) es), length-take p es, length-drop (suc p) es)

pub but_length : {E : Type 0} (es : List E) (p : ℕ) → p < length es → length es ≤ suc (length (but p es))
but_length es p l = omega (arith, length-append (take p es) (drop (suc p) es), length-take p es, length-drop (suc p) es)

pub all_but : {E : Type 0} (P : E → Type 0) (es : List E) (p : ℕ) → AllByRecursion P es → AllByRecursion P (but p es)
all_but P es p a = All-append P (take p es) (drop (suc p) es) (All-take P p es a) (All-drop P (suc p) es a)

map_but : {E F : Type 0} (f : E → F) (es : List E) (p : ℕ) → map f (but p es) ≡ but p (map f es)
map_but f es p = map-append f (take p es) (drop (suc p) es) ∙ ap₂ (λ x y. x ++ y) (sym (take-map f p es)) (sym (drop-map f (suc p) es))

-- ---- the model's step
module _ (d g : ℕ) (xs : List (Entry (suc g))) (p : ℕ) (left : List (Entry g)) (aside : List Row) where
  rest_of : Bool → List (Entry (suc g)) × List Row
  rest_of t = cond t (take p xs ++ drop (suc p) xs, aside ++ rows_below g left) (set xs p (boxed d g left), aside)

step_is : (d g : ℕ) (xs : List (Entry (suc g))) (p number : ℕ) (ys : List (Entry g)) → p ≡ holder g number xs → ys ≡ entries_at g xs p
    → rest_of d g xs p (withdraw_below d g ys number).0 (withdraw_below d g ys number).1 (ltb (length (withdraw_below d g ys number).0) 3) ≡ withdraw_below d (suc g) xs number
unfolding rest_of
step_is d g xs p number ys is es =
    let F : ℕ → List (Entry g) → List (Entry (suc g)) × List Row =
    λ q zs. rest_of d g xs q (withdraw_below d g zs number).0 (withdraw_below d g zs number).1 (ltb (length (withdraw_below d g zs number).0) 3) in
    ap (F p) es ∙ ap (λ q. F q (entries_at g xs q)) is

-- the sums of a measure over siblings, one of which changes
measure_changed : (N M : List Node) (h : ℕ) (f m : NodeEntry → ℕ) → ((e : NodeEntry) → Agree N M h e → m e ≡ f e) → (c : NodeEntry) (es : List NodeEntry) (p : ℕ) → p < length es → get_or es p no_entry ≡ c
    → Agrees N M h (but p es) → total m es + f c ≡ total f es + m c
measure_changed N M h f m ih c es p l is a =
    let x = total_but f es p no_entry l in
    let y = total_but m es p no_entry l in
    let z = measure_same N M h f m ih (but p es) a in
    omega (arith, x, y, z, ap f is, ap m is)

module _ (d : ℕ) (N : List Node) (g i number p : ℕ) (apart : (k : ℕ) → times N (suc (suc g)) (spot i) k ≤ 1) (s : Sound N (suc (suc g)) (spot i)) (within : p < length (inside (node N i))) where
  abbrev es : List NodeEntry
  es = inside (node N i)

  abbrev pub child : NodeEntry
  child = get_or (inside (node N i)) p no_entry

  box_times : (k : ℕ) → times N (suc (suc g)) (spot i) k ≡ one i k + total (λ e. times N (suc g) e k) es
  box_times k = times_at N (suc g) i k

  child_times : (k : ℕ) → times N (suc g) (spot (place_in child)) k ≤ total (λ e. times N (suc g) e k) es
  child_times k = omega (arith, total_at (λ e. times N (suc g) e k) es p no_entry within, times_spot N g child k)

  -- what the recursion asks
  pub child_apart : (k : ℕ) → times N (suc g) (spot (place_in child)) k ≤ 1
  child_apart k = omega (arith, apart k, box_times k, child_times k)

  clips_spot : (K : List Node) → length (clips_in K (suc g) (spot (place_in child))) ≡ length (clips_in K (suc g) child)
  unfolding clips_in
  clips_spot K = refl

  count_spot : (K : List Node) → count_in K (suc g) (spot (place_in child)) ≡ count_in K (suc g) child
  unfolding count_in
  count_spot K = refl

  pub child_clips : length (clips_in N (suc g) (spot (place_in child))) ≤ length (clips_in N (suc (suc g)) (spot i))
  child_clips = omega (arith, clips_at N (suc g) i, total_at (λ e. length (clips_in N (suc g) e)) es p no_entry within, clips_spot N)

  pub child_count : count_in N (suc g) (spot (place_in child)) ≤ count_in N (suc (suc g)) (spot i)
  child_count = omega (arith, count_at N (suc g) i, total_at (count_in N (suc g)) es p no_entry within, count_spot N)

  parts : (i < length N) × ((node N i).len ≤ 8) × AllByRecursion (Sound N (suc g)) es
  unfolding Sound
  parts = (s.0, s.2, s.3)

  pub child_sound : Sound N (suc g) (spot (place_in child))
  unfolding Sound
  child_sound = All-get_or (Sound N (suc g)) es p no_entry within parts.2

  place_in_n : (e : NodeEntry) → Sound N (suc g) e → place_in e < length N
  unfolding Sound
  place_in_n e w = w.0

  module _ (M : List Node) (W V : List ℕ) (n m : ℕ) (F G : List ℕ) (t u : ℕ) (tk : WithdrawnBelow d N M g (place_in child) number W V n m F G t u) where
    once : Once N M (suc g) es
    once k = omega (arith, apart k, box_times k)

    rest : Rest N M (suc g) child es
    rest k q z = tk.frame k (times_spot N g child k ∙ z)

    others : Agrees N M (suc g) (but p es)
    others k q = tk.frame k (omega (arith, once k, total_but (λ e. times N (suc g) e k) es p no_entry within, times_spot N g child k))

    pub own : node M i ≡ node N i
    own = tk.frame i (omega (arith, apart i, box_times i, child_times i, one_self i))

    pub own_inside : inside (node M i) ≡ es
    own_inside = ap inside own

    pub in_m : i < length M
    in_m = omega (arith, tk.long, parts.0)

    pub few_m : (node M i).len ≤ 8
    few_m = subst (λ x. x.len ≤ 8) (sym own) parts.1

    pub child_in_m : place_in child < length M
    child_in_m = omega (arith, tk.long, place_in_n (spot (place_in child)) child_sound)

    no_own : (k : ℕ) → total (λ e. times M (suc g) e k) es ≤ total (λ e. times N (suc g) e k) es
    no_own k = omega (arith, total_changed N M (suc g) child es p within refl once rest k, tk.fewer k, times_spot M g child k, times_spot N g child k)

    free_es : total (λ e. times M (suc g) e i) es ≡ 0
    free_es = omega (arith, no_own i, apart i, box_times i, one_self i)

    left : List (Entry g)
    left = (out_of d N g (place_in child) number).0

    child_entries : (entry_of d N (suc g) (spot (place_in child))).entries ≡ entries_at g (map (entry_of d N (suc g)) es) p
    child_entries =
        ap (λ (x : Box (Entry g)). x.entries) (entry_spot N g child d) ∙ ap (λ (x : Box (Entry g)). x.entries) (sym (get_or-map (entry_of d N (suc g)) es p no_entry (bare g) within))

    model : p ≡ holder g number (map (entry_of d N (suc g)) es)
        → rest_of d g (map (entry_of d N (suc g)) es) p (out_of d N g (place_in child) number).0 (out_of d N g (place_in child) number).1 (ltb (length (out_of d N g (place_in child) number).0) 3)
        ≡ out_of d N (suc g) i number
    unfolding entry_of
    model is = step_is d g (map (entry_of d N (suc g)) es) p number (entry_of d N (suc g) (spot (place_in child))).entries is child_entries

    child_box : entry_of d M (suc g) child ≡ boxed d g (out_of d N g (place_in child) number).0
    child_box = sym (entry_spot M g child d) ∙ tk.box

    left_long : length (out_of d N g (place_in child) number).0 ≡ (node M (place_in child)).len
    unfolding entry_of
    left_long =
        ap (λ (x : Box (Entry g)). length x.entries) (sym tk.box) ∙ length-map (inside (node M (place_in child))) (entry_of d M g) ∙ tk.full

    child_sound_m : 3 ≤ (node M (place_in child)).len → Sound M (suc g) child
    unfolding Sound
    child_sound_m three = (child_in_m, least_some g (node M (place_in child)).len (omega arith), tk.few, tk.sound)

    pub keep_sound : 3 ≤ (node M (place_in child)).len → AllByRecursion (Sound M (suc g)) es
    keep_sound three = sound_changed N M (suc g) tk.long child es p within refl once rest (child_sound_m three) parts.2

    pub out_sound : AllByRecursion (Sound M (suc g)) (but p es)
    out_sound = sounds_same N M tk.long (suc g) (but p es) others (all_but (Sound N (suc g)) es p parts.2)

    free_out : total (λ e. times M (suc g) e i) (but p es) ≡ 0
    free_out = omega (arith, totals_same N M (suc g) (but p es) others i, total_but (λ e. times N (suc g) e i) es p no_entry within, apart i, box_times i, one_self i)

    -- what moving the child out asks
    pub child_within : Within M (suc g) (spot (place_in child))
    child_within = within_from M g (spot (place_in child)) child_in_m tk.few (all_within M g (inside (node M (place_in child))) tk.sound)

    pub child_room : 2 * (n + length (clips_in N (suc (suc g)) (spot i))) ≤ length W → count_in N (suc (suc g)) (spot i) ≤ t → t ≤ length F
        → (2 * (m + length (clips_in M (suc g) (spot (place_in child)))) ≤ length V) × (count_in M (suc g) (spot (place_in child)) ≤ u) × (u ≤ length G)
    child_room a b f = (omega (arith, tk.clips, tk.words, child_clips), omega (arith, tk.boxes, child_count), omega (arith, tk.low, tk.free))

    module _ (L : List Node) (is : p ≡ holder g number (map (entry_of d N (suc g)) es)) where
      -- ---- the child stays
      kept_is : 3 ≤ (node M (place_in child)).len → out_of d N (suc g) i number ≡ (set (map (entry_of d N (suc g)) es) p (boxed d g (out_of d N g (place_in child) number).0), (out_of d N g (place_in child) number).1)
      unfolding rest_of
      kept_is three =
          sym (model is) ∙ ap (rest_of d g (map (entry_of d N (suc g)) es) p (out_of d N g (place_in child) number).0 (out_of d N g (place_in child) number).1)
          (le-ltb (length (out_of d N g (place_in child) number).0) 3 (omega (arith, left_long)))

      pub taken_keep : 3 ≤ (node M (place_in child)).len → Written d M L (suc g) i es → WithdrawnBelow d N L (suc g) i number W V n m F G t u
      taken_keep three q =
          let k-is = kept_is three in
          record {
            long = put_length d M L (suc g) i es q ∙ tk.long;
            box = put_entry d M L (suc g) i es q in_m free_es
                ∙ ap (boxed d (suc g)) (one_changed N M (suc g) d child es p within refl once rest ∙ ap (λ x. set (map (entry_of d N (suc g)) es) p x) child_box ∙ ap (λ (x : List (Entry (suc g)) × List Row). x.0) (sym k-is));
            aside = tk.aside ∙ ap (λ (x : List (Entry (suc g)) × List Row). map (stored_row d) (asides W n) ++ x.1) (sym k-is);
            words = tk.words;
            clips = omega (
              arith,
              put_clips d M L (suc g) i es q in_m free_es,
              clips_at N (suc g) i,
              tk.clips,
              clips_spot N,
              clips_spot M,
              measure_changed N M (suc g) (λ e. length (clips_in N (suc g) e)) (λ e. length (clips_in M (suc g) e)) (λ e a. ap length (clips_frame N M (suc g) e a)) child es p within refl others,
            );
            freed = λ k. omega (arith, put_times d M L (suc g) i es q in_m free_es k, box_times k, tk.freed k, times_spot N g child k, times_spot M g child k, total_changed N M (suc g) child es p within refl once rest k);
            boxes = omega (
              arith,
              put_count d M L (suc g) i es q in_m free_es,
              count_at N (suc g) i,
              tk.boxes,
              count_spot N,
              count_spot M,
              measure_changed N M (suc g) (count_in N (suc g)) (count_in M (suc g)) (count_frame N M (suc g)) child es p within refl others,
            );
            free = tk.free;
            low = tk.low;
            frame = λ k z. put_other d M L (suc g) i es q k (one_apart i k (omega (arith, box_times k))) ∙ tk.frame k (omega (arith, box_times k, child_times k));
            fewer = λ k. omega (arith, put_times d M L (suc g) i es q in_m free_es k, box_times k, no_own k);
            least = λ _. omega (arith, put_len d M L (suc g) i es q in_m free_es);
            few = omega (arith, put_len d M L (suc g) i es q in_m free_es, length-take (node N i).len (node N i).entries, parts.1);
            full = put_full d M L (suc g) i es q in_m free_es;
            sound = put_sounds d M L (suc g) i es q in_m free_es (keep_sound three);
          }

      -- ---- the child is taken out
      gone_is : (node M (place_in child)).len < 3
          → out_of d N (suc g) i number ≡ (but p (map (entry_of d N (suc g)) es), (out_of d N g (place_in child) number).1 ++ rows_below g (out_of d N g (place_in child) number).0)
      unfolding rest_of
      gone_is few =
          sym (model is) ∙ ap (rest_of d g (map (entry_of d N (suc g)) es) p (out_of d N g (place_in child) number).0 (out_of d N g (place_in child) number).1)
          (lt-ltb (length (out_of d N g (place_in child) number).0) 3 (omega (arith, left_long)))

      pub taken_out : (node M (place_in child)).len < 3 → (X : List ℕ) (a : ℕ) (H : List ℕ) (b : ℕ) → SetAside M (suc g) (spot (place_in child)) V X m a G H u b
          → Written d M L (suc g) i (but p es) → WithdrawnBelow d N L (suc g) i number W X n a F H t b
      taken_out few X a H b sp q =
          let o_is = gone_is few in
          let same = measure_same N M (suc g) (λ e. length (clips_in N (suc g) e)) (λ e. length (clips_in M (suc g) e)) (λ e a. ap length (clips_frame N M (suc g) e a)) (but p es) others in
          let counts = measure_same N M (suc g) (count_in N (suc g)) (count_in M (suc g)) (count_frame N M (suc g)) (but p es) others in
          record {
            long = put_length d M L (suc g) i (but p es) q ∙ tk.long;
            box = put_entry d M L (suc g) i (but p es) q in_m free_out
                ∙ ap (boxed d (suc g)) (entries_same N M d (suc g) (but p es) others ∙ map_but (entry_of d N (suc g)) es p ∙ ap (λ (x : List (Entry (suc g)) × List Row). x.0) (sym o_is));
            aside = ap (map (stored_row d)) sp.aside ∙ map-append (stored_row d) (asides V m) (clips_in M (suc g) (spot (place_in child)))
                ∙ ap₂ (λ x y. x ++ y) tk.aside (clips_rows d M (suc g) (spot (place_in child)) ∙ ap (λ (x : Box (Entry g)). rows_below g x.entries) tk.box)
                ∙ append_assoc (map (stored_row d) (asides W n)) (out_of d N g (place_in child) number).1 (rows_below g (out_of d N g (place_in child) number).0)
                ∙ ap (λ (x : List (Entry (suc g)) × List Row). map (stored_row d) (asides W n) ++ x.1) (sym o_is);
            words = sp.words ∙ tk.words;
            clips = omega (arith, put_clips d M L (suc g) i (but p es) q in_m free_out, clips_at N (suc g) i, tk.clips, clips_spot N, same, sp.more, total_but (λ e. length (clips_in N (suc g) e)) es p no_entry within);
            freed = λ k. omega (
              arith,
              put_times d M L (suc g) i (but p es) q in_m free_out k,
              box_times k,
              tk.freed k,
              sp.freed k,
              times_spot N g child k,
              totals_same N M (suc g) (but p es) others k,
              total_but (λ e. times N (suc g) e k) es p no_entry within,
            );
            boxes = omega (arith, put_count d M L (suc g) i (but p es) q in_m free_out, count_at N (suc g) i, tk.boxes, sp.top, count_spot N, counts, total_but (count_in N (suc g)) es p no_entry within);
            free = sp.free ∙ tk.free;
            low = omega (arith, sp.top, tk.low);
            frame = λ k z. put_other d M L (suc g) i (but p es) q k (one_apart i k (omega (arith, box_times k))) ∙ tk.frame k (omega (arith, box_times k, child_times k));
            fewer = λ k. omega (arith, put_times d M L (suc g) i (but p es) q in_m free_out k, box_times k, totals_same N M (suc g) (but p es) others k, total_but (λ e. times N (suc g) e k) es p no_entry within);
            least = λ _. omega (arith, put_len d M L (suc g) i (but p es) q in_m free_out, but_length es p within);
            few = omega (arith, put_len d M L (suc g) i (but p es) q in_m free_out, length_but es p, length-take (node N i).len (node N i).entries, parts.1);
            full = put_full d M L (suc g) i (but p es) q in_m free_out;
            sound = put_sounds d M L (suc g) i (but p es) q in_m free_out out_sound;
          }
