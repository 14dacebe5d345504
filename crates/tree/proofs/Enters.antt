-- A clip entered at a box above the leaves: one of its entries has grown.
use Rattle.std.proofs.Common.{◌≡◌, ℕ, suc, ◌+◌, ◌<◌, ◌≤◌, Bool, true, false, cond, eqb, List, [], ◌∷◌, ◌++◌, map, length, get_or, take, set, Some, None, sym, refl, ap, ◌∙◌, subst, ap₂, arith}
use Rattle.std.specs.List.{AllByRecursion}
use Rattle.std.proofs.lemmas.List.{length-take, map-append, append-nil, get_or-map}
use Rattle.std.proofs.ByRecursion.{All-append, All-get_or}
use Rattle.std.proofs.lemmas.Bool.{eqb-true, eq-eqb, ne_eqb}
use Rattle.rules.specs.Tree.{Box, Entry, sets_of}
use Rattle.rules.specs.Choice.{chosen}
use Rattle.rules.specs.Enter.{fitted, enter_below, extra}
use Rattle.rules.proofs.Builds.{bare}
use Rattle.space.specs.declared.clip.StoredClip.{StoredClip}
use Rattle.tree.specs.declared.node.NodeEntry.{NodeEntry}
use Rattle.tree.specs.declared.node.Node.{Node}
use Rattle.tree.specs.Nodes.{no_entry, spot, place_in, node, inside, entry_of, one, total, times, Sound, Written, Fitted, held, enters, EnteredBelow}
use Rattle.space.specs.Row.{stored_row}
use Rattle.tree.proofs.Frame.{one_self, times_spot, entry_spot, sound_spot}
use Rattle.tree.proofs.Fits.{Apart, settled_one}
use Rattle.tree.proofs.Siblings.{total_append, total_at, held_more, total_take_le, one_apart, Rest, Once, one_changed, total_changed, sound_changed}

extra_cond : {E : Type 0} (b : Bool) (x : E) → extra (cond b (Some x) None) ≡ cond b (x ∷ []) []
extra_cond true x = refl
extra_cond false x = refl

map_cond : {X Y : Type 0} (f : X → Y) (b : Bool) (x : X) → map f (cond b (x ∷ []) []) ≡ cond b (f x ∷ []) []
map_cond f true x = refl
map_cond f false x = refl

total_cond : (f : NodeEntry → ℕ) (b : Bool) (x : NodeEntry) → total f (cond b (x ∷ []) []) ≡ cond b (f x) 0
total_cond f true x = omega arith
total_cond f false x = refl

all_cond : (P : NodeEntry → Type 0) (b : Bool) (x : NodeEntry) → (b ≡ true → P x) → AllByRecursion P (cond b (x ∷ []) [])
all_cond P true x h = (h refl, tt)
all_cond P false x h = tt

module _ (d : ℕ) (N : List Node) (spare : List ℕ) (g i : ℕ) (clip : StoredClip) (p : ℕ) (room : suc g < length spare)
    (apart : (k : ℕ) → times N (suc (suc g)) (spot i) k + held spare (suc (suc g)) k ≤ 1) (within : p < length (inside (node N i))) where
  box_times : (k : ℕ) → times N (suc (suc g)) (spot i) k ≡ one i k + total (λ e. times N (suc g) e k) (inside (node N i))
  unfolding times
  box_times k = refl

  child_times : (k : ℕ) → times N (suc g) (get_or (inside (node N i)) p no_entry) k ≤ total (λ e. times N (suc g) e k) (inside (node N i))
  child_times k = total_at (λ e. times N (suc g) e k) (inside (node N i)) p no_entry within

  -- what the recursion asks
  pub child_apart : (k : ℕ) → times N (suc g) (get_or (inside (node N i)) p no_entry) k + held spare (suc g) k ≤ 1
  child_apart k = omega (arith, apart k, box_times k, child_times k, held_more spare (suc g) k room)

  pub child_sound : Sound N (suc (suc g)) (spot i) → Sound N (suc g) (get_or (inside (node N i)) p no_entry)
  unfolding Sound
  child_sound s = All-get_or (Sound N (suc g)) (inside (node N i)) p no_entry within s.3

  module _ (M : List Node) (u : ℕ) (s : Sound N (suc (suc g)) (spot i)) (gr : EnteredBelow d N M spare g (place_in (get_or (inside (node N i)) p no_entry)) clip u) where
    -- the entries after: a second box is one more
    abbrev pub after : List NodeEntry
    after = inside (node N i) ++ cond (eqb u (suc g)) (spot (get_or spare g 0) ∷ []) []

    once : Once N M (suc g) (inside (node N i))
    once k = omega (arith, apart k, box_times k)

    rest : Rest N M (suc g) (get_or (inside (node N i)) p no_entry) (inside (node N i))
    rest k q z = gr.frame k (times_spot N g (get_or (inside (node N i)) p no_entry) k ∙ z) (omega (arith, apart k, box_times k, held_more spare (suc g) k room))

    entries_after : map (entry_of d M (suc g)) after ≡ set (map (entry_of d N (suc g)) (inside (node N i))) p (enters d N g (place_in (get_or (inside (node N i)) p no_entry)) clip).0 ++ extra (enters d N g (place_in (get_or (inside (node N i)) p no_entry)) clip).1
    entries_after =
        map-append (entry_of d M (suc g)) (inside (node N i)) (cond (eqb u (suc g)) (spot (get_or spare g 0) ∷ []) [])
        ∙ ap₂ (λ x y. x ++ y)
        (one_changed N M (suc g) d (get_or (inside (node N i)) p no_entry) (inside (node N i)) p within refl once rest ∙ ap (λ x. set (map (entry_of d N (suc g)) (inside (node N i))) p x) (sym (entry_spot M g (get_or (inside (node N i)) p no_entry) d) ∙ gr.first))
        (map_cond (entry_of d M (suc g)) (eqb u (suc g)) (spot (get_or spare g 0)) ∙ sym (extra_cond (eqb u (suc g)) (entry_of d M (suc g) (spot (get_or spare g 0)))) ∙ ap extra gr.second)

    totals_after : (k : ℕ) → total (λ e. times M (suc g) e k) after ≡ total (λ e. times N (suc g) e k) (inside (node N i)) + held spare u k
    totals_after k =
        omega (
          arith,
          total_append (λ e. times M (suc g) e k) (inside (node N i)) (cond (eqb u (suc g)) (spot (get_or spare g 0) ∷ []) []),
          total_cond (λ e. times M (suc g) e k) (eqb u (suc g)) (spot (get_or spare g 0)),
          total_changed N M (suc g) (get_or (inside (node N i)) p no_entry) (inside (node N i)) p within refl once rest k,
          gr.count k,
          times_spot M g (get_or (inside (node N i)) p no_entry) k,
          times_spot N g (get_or (inside (node N i)) p no_entry) k,
        )

    pub sounds_after : AllByRecursion (Sound M (suc g)) after
    unfolding Sound
    sounds_after =
        All-append (Sound M (suc g)) (inside (node N i)) (cond (eqb u (suc g)) (spot (get_or spare g 0) ∷ []) [])
        (sound_changed N M (suc g) gr.long (get_or (inside (node N i)) p no_entry) (inside (node N i)) p within refl once rest (sound_spot M g (get_or (inside (node N i)) p no_entry) gr.sound) s.3)
        (all_cond (Sound M (suc g)) (eqb u (suc g)) (spot (get_or spare g 0)) (λ e. gr.other (eqb-true u (suc g) e)))

    pub after_apart : Apart M (suc g) i (get_or spare (suc g) 0) after
    after_apart k =
        omega (arith, totals_after k, apart k, box_times k, held_more spare (suc g) k room, total_take_le (λ e. one e k) u (suc g) spare gr.used)

    enters_up : p ≡ chosen (map (sets_of (suc g)) (map (entry_of d N (suc g)) (inside (node N i)))) (take d clip.letters)
        → fitted d (suc g) (map (entry_of d M (suc g)) after) ≡ enters d N (suc g) i clip
    unfolding entry_of
    enters_up is =
        let xs = map (entry_of d N (suc g)) (inside (node N i)) in
        let row = stored_row d clip in
        ap (fitted d (suc g)) entries_after
        ∙ ap (λ (x : Box (Entry g)). fitted d (suc g) (set xs p (enter_below d g x.entries row).0 ++ extra (enter_below d g x.entries row).1)) (sym (get_or-map (entry_of d N (suc g)) (inside (node N i)) p no_entry (bare g) within))
        ∙ ap (λ q. fitted d (suc g) (set xs q (enter_below d g (get_or xs q (bare g)).entries row).0 ++ extra (enter_below d g (get_or xs q (bare g)).entries row).1)) is

    module _ (is : p ≡ chosen (map (sets_of (suc g)) (map (entry_of d N (suc g)) (inside (node N i)))) (take d clip.letters)) (L : List Node) where
      met : (r : Bool) → Fitted d M L (suc g) i (get_or spare (suc g) 0) after r → (k : ℕ) → times N (suc (suc g)) (spot i) k ≡ 0 → held spare (suc (suc g)) k ≡ 0 → node L k ≡ node N k
      met r t k z w =
          t.frame k (one_apart i k (omega (arith, box_times k))) (one_apart (get_or spare (suc g) 0) k (omega (arith, held_more spare (suc g) k room)))
          ∙ gr.frame k (omega (arith, child_times k, box_times k, times_spot N g (get_or (inside (node N i)) p no_entry) k)) (omega (arith, held_more spare (suc g) k room))

      -- the box has room
      pub climbed_one : Fitted d M L (suc g) i (get_or spare (suc g) 0) after false → EnteredBelow d N L spare (suc g) i clip u
      climbed_one t =
          let n : eqb u (suc (suc g)) ≡ false = ne_eqb u (suc (suc g)) (λ e. omega (arith, gr.used)) in
          let e = enters_up is in
          record {
            long = t.long ∙ gr.long;
            used = omega (arith, gr.used);
            first = t.first ∙ ap (λ x. x.0) e;
            second = ap (λ b. cond b (Some (entry_of d L (suc (suc g)) (spot (get_or spare (suc g) 0)))) None) n ∙ t.second ∙ ap (λ x. x.1) e;
            count = λ k. ap (λ b. times L (suc (suc g)) (spot i) k + cond b (times L (suc (suc g)) (spot (get_or spare (suc g) 0)) k) 0) n ∙ omega (arith, t.count k, totals_after k, box_times k);
            frame = met false t;
            sound = t.sound;
            other = λ q. absurd (omega (arith, gr.used));
          }

      -- the box was divided, as its entry was
      pub climbed_two : u ≡ suc g → Fitted d M L (suc g) i (get_or spare (suc g) 0) after true → EnteredBelow d N L spare (suc g) i clip (suc (suc g))
      climbed_two all t =
          let n : eqb (suc (suc g)) (suc (suc g)) ≡ true = eq-eqb (suc (suc g)) (suc (suc g)) refl in
          let e = enters_up is in
          record {
            long = t.long ∙ gr.long;
            used = omega arith;
            first = t.first ∙ ap (λ x. x.0) e;
            second = ap (λ b. cond b (Some (entry_of d L (suc (suc g)) (spot (get_or spare (suc g) 0)))) None) n ∙ t.second ∙ ap (λ x. x.1) e;
            count = λ k. ap (λ b. times L (suc (suc g)) (spot i) k + cond b (times L (suc (suc g)) (spot (get_or spare (suc g) 0)) k) 0) n
                ∙ omega (arith, t.count k, totals_after k, box_times k, held_more spare (suc g) k room, ap (λ m. held spare m k) all);
            frame = met true t;
            sound = t.sound;
            other = λ _. t.other refl;
          }

    -- the box itself is as it was
    pub own : node M i ≡ node N i
    own =
        let z = one_self i in
        gr.frame i (omega (arith, apart i, box_times i, child_times i, times_spot N g (get_or (inside (node N i)) p no_entry) i)) (omega (arith, apart i, box_times i, held_more spare (suc g) i room))

    after_one : eqb u (suc g) ≡ false → after ≡ inside (node M i)
    after_one e = ap (λ b. inside (node N i) ++ cond b (spot (get_or spare g 0) ∷ []) []) e ∙ append-nil (inside (node N i)) ∙ ap inside (sym own)

    after_two : eqb u (suc g) ≡ true → after ≡ inside (node M i) ++ spot (get_or spare g 0) ∷ []
    after_two e = ap (λ b. inside (node N i) ++ cond b (spot (get_or spare g 0) ∷ []) []) e ∙ ap (λ n. inside n ++ spot (get_or spare g 0) ∷ []) (sym own)

    pub at_parts : (i < length M) × (1 ≤ (node M i).len) × ((node M i).len ≤ 8)
    unfolding Sound
    at_parts = (omega (arith, gr.long, s.0), subst (λ n. 1 ≤ n.len) (sym own) s.1, subst (λ n. n.len ≤ 8) (sym own) s.2)

    pub keep_sound : eqb u (suc g) ≡ false → AllByRecursion (Sound M (suc g)) (inside (node M i))
    keep_sound e = subst (AllByRecursion (Sound M (suc g))) (after_one e) sounds_after

    pub more_sound : eqb u (suc g) ≡ true → AllByRecursion (Sound M (suc g)) (inside (node M i) ++ spot (get_or spare g 0) ∷ [])
    more_sound e = subst (AllByRecursion (Sound M (suc g))) (after_two e) sounds_after

    pub more_apart : eqb u (suc g) ≡ true → Apart M (suc g) i (get_or spare (suc g) 0) (inside (node M i) ++ spot (get_or spare g 0) ∷ [])
    more_apart e = subst (Apart M (suc g) i (get_or spare (suc g) 0)) (after_two e) after_apart

    module _ (is : p ≡ chosen (map (sets_of (suc g)) (map (entry_of d N (suc g)) (inside (node N i)))) (take d clip.letters)) (L : List Node) where
      pub keep_grown : eqb u (suc g) ≡ false → Written d M L (suc g) i (inside (node M i)) → EnteredBelow d N L spare (suc g) i clip u
      keep_grown e q =
          let w = after_one e in
          let same : length (inside (node M i)) ≡ length (inside (node N i)) = ap (λ n. length (inside n)) own in
          climbed_one is L
          (settled_one d M (suc g) i (get_or spare (suc g) 0) after at_parts.0 after_apart sounds_after L (subst (Written d M L (suc g) i) (sym w) q)
          (omega (arith, within, ap length w)) (omega (arith, at_parts.2, length-take (node M i).len (node M i).entries, ap length w)))

      pub more_grown : eqb u (suc g) ≡ true → (r : Bool) → Fitted d M L (suc g) i (get_or spare (suc g) 0) (inside (node M i) ++ spot (get_or spare g 0) ∷ []) r → EnteredBelow d N L spare (suc g) i clip (cond r (suc (suc g)) (suc g))
      more_grown e true t = climbed_two is L (eqb-true u (suc g) e) (subst (λ es. Fitted d M L (suc g) i (get_or spare (suc g) 0) es true) (sym (after_two e)) t)
      more_grown e false t =
          subst (λ n. EnteredBelow d N L spare (suc g) i clip n) (eqb-true u (suc g) e)
          (climbed_one is L (subst (λ es. Fitted d M L (suc g) i (get_or spare (suc g) 0) es false) (sym (after_two e)) t))
