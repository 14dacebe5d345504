-- The clips of a tree written to a list.
use Rattle.std.proofs.Common.{◌≡◌, ℕ, zero, suc, ◌+◌, ◌-◌, ◌<◌, ◌≤◌, List, [], ◌∷◌, ◌++◌, length, get_or, take, drop, set, Some, sym, refl, ap, ◌∙◌, subst, ap₂, add-one, arith, length-set}
use Rattle.std.specs.List.{flat_map}
use borrow.Rule.Slice.PartMut.{put_mid, same_len_mid}
use Rattle.std.proofs.Math.Seq.{take-append-add, drop-append-add}
use Rattle.std.proofs.lemmas.Slice.{take-put_mid}
use Rattle.std.proofs.lemmas.List.{take_rest, length-drop, take_more, take_more_set, take_all, drop-drop, drop-set-lt, flat_map_more, length-map, length-append, length-take-le}
use Rattle.std.proofs.lemmas.Bool.{le-leb}
use Rattle.space.specs.Boxes.{given}
use Rattle.space.specs.Row.{Row, stored_row, stored_rows}
use Rattle.space.specs.declared.clip.StoredClip.{StoredClip}
use Rattle.rules.specs.Tree.{rows_in}
use Rattle.tree.specs.declared.index.Index.{Index}
use Rattle.tree.specs.declared.node.NodeEntry.{NodeEntry}
use Rattle.tree.specs.declared.node.Node.{Node}
use Rattle.tree.specs.Nodes.{no_entry, node, inside, spot, clip_in, place_in, entry_of, total}
use Rattle.tree.specs.Leaving.{clips_in, Within}
use Rattle.tree.specs.Listing.{Copied, Listed}
use Rattle.tree.specs.Seen.{plan_of, tree_in}
use Rattle.tree.proofs.SetsAside.{clips_up, total_more, total_room, length_joined_total, sound_within}
use Rattle.tree.proofs.Withdraws.{clips_rows}
use Rattle.tree.proofs.Wholes.{whole_of}

-- lists that agree from a place on agree from any later one
drop_later : {X : Type 0} (m k : ℕ) (xs ys : List X) → m ≤ k → drop m xs ≡ drop m ys → drop k xs ≡ drop k ys
drop_later m k xs ys l e =
    let z : m + (k - m) ≡ k = omega arith in
    ap (λ j. drop j xs) (sym z) ∙ sym (drop-drop (k - m) m xs) ∙ ap (drop (k - m)) e ∙ drop-drop (k - m) m ys ∙ ap (λ j. drop j ys) z

-- ---- the clips of an entry's tree
clips_leaf : (N : List Node) (h : ℕ) (e : NodeEntry) → h ≡ 0 → clips_in N h e ≡ clip_in e ∷ []
unfolding clips_in
clips_leaf N zero e z = refl
clips_leaf N (suc h) e z = absurd (omega arith)

pub copied_leaf : (N : List Node) (h : ℕ) (e : NodeEntry) (A : List StoredClip) (c : StoredClip) → h ≡ 0 → c ≡ clip_in e → 0 < length A → Copied N h e A (set A 0 c) 1
copied_leaf N h e A c z is l =
    let q = clips_leaf N h e z in
    record {
      front = take_more_set A 0 c l ∙ ap (λ x. x ∷ []) is ∙ sym q;
      more = sym (ap length q);
      long = length-set A 0 c;
      rest = drop-set-lt 1 A 0 c (omega arith);
    }

-- the state of the walk over some entries of height g, at k
pub record Copying (N : List Node) (g : ℕ) (es : List NodeEntry) (A B : List StoredClip) (m k : ℕ) : Type 0 where
  pub front : take m B ≡ flat_map (clips_in N g) (take k es)
  pub more : m ≡ total (λ x. length (clips_in N g x)) (take k es)
  pub long : length B ≡ length A
  pub rest : drop m B ≡ drop m A

-- the entries that a walk goes over
abbrev pub copied_of : {N : List Node} {g : ℕ} {es : List NodeEntry} {A B : List StoredClip} {m k : ℕ} → Copying N g es A B m k → List NodeEntry
copied_of {es = es} w = es

joined : (N : List Node) (g : ℕ) (es : List NodeEntry) (A B C : List StoredClip) (m j k : ℕ) → k < length es → m ≤ length B
    → Copying N g es A B m k → Copied N g (get_or es k no_entry) (drop m B) C j → Copying N g es A (take m B ++ C) (m + j) (k + 1)
joined N g es A B C m j k l fits w s =
    let e = get_or es k no_entry in
    let long : length (take m B) ≡ m = length-take-le m B fits in
    let front : take (m + j) (take m B ++ C) ≡ take m B ++ take j C = ap (λ n. take (n + j) (take m B ++ C)) (sym long) ∙ take-append-add (take m B) C j in
    let back : drop (m + j) (take m B ++ C) ≡ drop j C = ap (λ n. drop (n + j) (take m B ++ C)) (sym long) ∙ drop-append-add (take m B) C j in
    record {
      front = front ∙ ap₂ (λ x y. x ++ y) w.front s.front ∙ flat_map_more (clips_in N g) [] (take k es) e ∙ ap (flat_map (clips_in N g)) (sym (take_more es k no_entry l));
      more = omega (arith, s.more, w.more, total_more (λ x. length (clips_in N g x)) es k no_entry l);
      long = length-append (take m B) C ∙ omega (arith, long, s.long, length-drop m B, w.long);
      rest = back ∙ s.rest ∙ drop-drop j m B ∙ drop_later m (m + j) B A (omega arith) w.rest;
    }

-- the part from m on has become C
pub copying_step : (N : List Node) (g : ℕ) (es : List NodeEntry) (A B C : List StoredClip) (m j k : ℕ) → k < length es → m ≤ length B
    → Copying N g es A B m k → Copied N g (get_or es k no_entry) (take (length B - m) (drop m B)) C j → Copying N g es A (put_mid m (length B - m) B C) (m + j) (k + 1)
copying_step N g es A B C m j k l fits w s0 =
    let s = subst (λ x. Copied N g (get_or es k no_entry) x C j) (take_rest B m) s0 in
    let part : length C ≡ length B - m = s.long ∙ length-drop m B in
    let whole : put_mid m (length B - m) B C ≡ take m B ++ C =
    sym (take_all (m + length C) (put_mid m (length B - m) B C) (omega (arith, same_len_mid m (length B - m) B C s0.long))) ∙ take-put_mid m (length B - m) B C (m + length C) refl fits in
    subst (λ x. Copying N g es A x (m + j) (k + 1)) (sym whole) (joined N g es A B C m j k l fits w s)

-- ---- at an entry above height 0, whose node at q has the entries es
module _ (N : List Node) (h q : ℕ) (e : NodeEntry) (es : List NodeEntry) (A B : List StoredClip) (m k : ℕ) (ne : h ≡ 0 → ⊥) (is : q ≡ place_in e) (es-is : es ≡ inside (node N q))
    (w : Copying N (h - 1) es A B m k) where
  pub copying_end : length es ≤ k → Copied N h e A B m
  copying_end l =
      let all : take k es ≡ inside (node N q) = take_all k es l ∙ es-is in
      let c = clips_up N h e q is ne in
      record {
        front = w.front ∙ ap (flat_map (clips_in N (h - 1))) all ∙ sym c;
        more = omega (arith, w.more, ap (total (λ x. length (clips_in N (h - 1) x))) all, length_joined_total (clips_in N (h - 1)) (inside (node N q)), ap length c);
        long = w.long;
        rest = w.rest;
      }

  pub copying_room : k < length es → length (clips_in N h e) ≤ length A → m + length (clips_in N (h - 1) (get_or es k no_entry)) ≤ length B
  copying_room l room =
      let c = ap length (clips_up N h e q is ne) ∙ length_joined_total (clips_in N (h - 1)) (inside (node N q)) ∙ ap (total (λ x. length (clips_in N (h - 1) x))) (sym es-is) in
      omega (arith, w.more, w.long, c, total_room (λ x. length (clips_in N (h - 1) x)) es k no_entry l)

-- ---- the clips of an index
module _ (x : Index) where
  abbrev N : List Node
  N = x.nodes.places.items

  abbrev rows : List Row
  rows = rows_in (tree_in x)

  root_rows : stored_rows (length (plan_of x)) (clips_in N (x.root.height + 1) (spot x.root.place)) ≡ rows
  unfolding entry_of
  root_rows =
      ap (λ h. stored_rows (length (plan_of x)) (clips_in N h (spot x.root.place))) (add-one x.root.height)
      ∙ clips_rows (length (plan_of x)) N (suc x.root.height) (spot x.root.place)

  root_count : length (clips_in N (x.root.height + 1) (spot x.root.place)) ≡ length rows
  root_count = sym (length-map (clips_in N (x.root.height + 1) (spot x.root.place)) (stored_row (length (plan_of x)))) ∙ ap length root_rows

  pub ask_clips : (A : List StoredClip) → x.clips ≤ length A
      → Within N (x.root.height + 1) (spot x.root.place) × (length (clips_in N (x.root.height + 1) (spot x.root.place)) ≤ length A)
  ask_clips A l =
      let w = whole_of x in
      let s = sound_within N (suc x.root.height) (spot x.root.place) w.stands.sound in (
        subst (λ h. Within N h (spot x.root.place)) (sym (add-one x.root.height)) s,
        omega (arith, w.count, root_count),
      )

  pub clips_done : (A B : List StoredClip) (m : ℕ) → x.clips ≤ length A → Copied N (x.root.height + 1) (spot x.root.place) A B m → Listed x rows A B (Some m)
  clips_done A B m l p =
      let many : m ≡ length rows = omega (arith, p.more, root_count) in
      let room : length rows ≤ length A = omega (arith, (whole_of x).count) in
      record {
        count = ap Some many ∙ sym (ap (λ b. given b (length rows)) (le-leb (length rows) (length A) room));
        front = record { clips = ap (stored_rows (length (plan_of x))) p.front ∙ root_rows; rest = p.rest };
      }
