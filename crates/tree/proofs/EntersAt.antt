-- The steps of a recursion over the height, which is more than 0: what each asks, and what it leaves.
use Rattle.std.proofs.Common.{◌≡◌, ℕ, zero, suc, ◌+◌, ◌-◌, ◌<◌, ◌≤◌, Bool, true, cond, eqb, List, [], ◌∷◌, ◌++◌, map, length, get_or, take, sym, refl, ap, subst, arith}
use Rattle.std.specs.List.{AllByRecursion}
use Rattle.std.proofs.lemmas.Bool.{eq-eqb, ne_eqb}
use Rattle.rules.specs.Tree.{sets_of}
use Rattle.rules.specs.Choice.{chosen}
use Rattle.space.specs.declared.clip.StoredClip.{StoredClip}
use Rattle.tree.specs.declared.node.NodeEntry.{NodeEntry}
use Rattle.tree.specs.declared.node.NodeEntry.TheVariants as kind
use Rattle.tree.specs.declared.node.Node.{Node}
use Rattle.tree.specs.Nodes.{no_entry, spot, place_in, least, node, inside, entry_of, times, Sound, Lettered, Written, Fitted, held, EnteredBelow, place_of}
use Rattle.tree.proofs.Lists.{map_map}
use Rattle.tree.proofs.Frame.{times_spot, spot_sound}
use Rattle.tree.proofs.Fits.{Apart}
use Rattle.tree.proofs.Siblings.{leaf_apart, leaf_grown}
use Rattle.std.proofs.ByRecursion.{All-append}
use Rattle.tree.proofs.Enters.{child_apart, child_sound, at_parts, keep_sound, more_sound, more_apart, keep_grown, more_grown}

place_is : (d : ℕ) (N : List Node) (h i : ℕ) (clip : StoredClip)
    → place_of d N h i clip ≡ chosen (map (sets_of h) (map (entry_of d N h) (inside (node N i)))) (take d clip.letters)
unfolding place_of
place_is d N h i clip = ap (λ x. chosen x (take d clip.letters)) (sym (map_map (sets_of h) (entry_of d N h) (inside (node N i))))

module _ (d : ℕ) (N : List Node) (spare : List ℕ) (i : ℕ) (clip : StoredClip) where
  -- what is known at a height
  abbrev pub Known : ℕ → Type 0
  Known h = (h ≡ 0 → ⊥) × (h < length spare) × ((k : ℕ) → times N (suc h) (spot i) k + held spare (suc h) k ≤ 1)
      × (place_of d N h i clip < length (inside (node N i))) × Sound N (suc h) (spot i)

  -- the entry that the clip goes to
  abbrev pub child : ℕ → NodeEntry
  child h = get_or (inside (node N i)) (place_of d N h i clip) no_entry

  down : (g : ℕ) → g ≡ suc g - 1
  down g = omega arith

  pub ask_child : (h : ℕ) → Known h → Sound N (suc (h - 1)) (spot (place_in (child h))) × ((k : ℕ) → times N (suc (h - 1)) (spot (place_in (child h))) k + held spare (suc (h - 1)) k ≤ 1)
  ask_child zero w = absurd (w.0 refl)
  ask_child (suc g) w =
      let P : ℕ → Type 0 = λ m. Sound N (suc m) (spot (place_in (child (suc g)))) × ((k : ℕ) → times N (suc m) (spot (place_in (child (suc g)))) k + held spare (suc m) k ≤ 1) in
      subst P (down g) (
        spot_sound N g (child (suc g)) (child_sound d N spare g i clip (place_of d N (suc g) i clip) w.1 w.2 w.3 w.4),
        λ k. subst (λ n. n + held spare (suc g) k ≤ 1) (sym (times_spot N g (child (suc g)) k)) (child_apart d N spare g i clip (place_of d N (suc g) i clip) w.1 w.2 w.3 k),
      )

  module _ (M : List Node) (u : ℕ) where
    below : (g : ℕ) → EnteredBelow d N M spare (suc g - 1) (place_in (child (suc g))) clip u → EnteredBelow d N M spare g (place_in (child (suc g))) clip u
    below g gr = subst (λ m. EnteredBelow d N M spare m (place_in (child (suc g))) clip u) (sym (down g)) gr

    pub ask_keep : (h : ℕ) → Known h → EnteredBelow d N M spare (h - 1) (place_in (child h)) clip u → u < h
        → (i < length M) × (1 ≤ (node M i).len) × ((node M i).len ≤ 8) × AllByRecursion (Sound M h) (inside (node M i))
    ask_keep zero w gr l = absurd (w.0 refl)
    ask_keep (suc g) w gr l =
        let q = at_parts d N spare g i clip (place_of d N (suc g) i clip) w.1 w.2 w.3 M u w.4 (below g gr) in
        (q.0, q.1, q.2, keep_sound d N spare g i clip (place_of d N (suc g) i clip) w.1 w.2 w.3 M u w.4 (below g gr) (ne_eqb u (suc g) (λ e. omega arith)))

    pub done_keep : (h : ℕ) → Known h → EnteredBelow d N M spare (h - 1) (place_in (child h)) clip u → u < h
        → (L : List Node) → Written d M L h i (inside (node M i)) → EnteredBelow d N L spare h i clip u
    done_keep zero w gr l L p = absurd (w.0 refl)
    done_keep (suc g) w gr l L p =
        keep_grown d N spare g i clip (place_of d N (suc g) i clip) w.1 w.2 w.3 M u w.4 (below g gr) (place_is d N (suc g) i clip) L (ne_eqb u (suc g) (λ e. omega arith)) p

    all_used : (g : ℕ) → EnteredBelow d N M spare g (place_in (child (suc g))) clip u → suc g ≤ u → eqb u (suc g) ≡ true
    all_used g gr l = eq-eqb u (suc g) (omega (arith, gr.used))

    pub ask_more : (h : ℕ) → Known h → EnteredBelow d N M spare (h - 1) (place_in (child h)) clip u → h ≤ u
        → (i < length M) × ((node M i).len ≤ 8) × AllByRecursion (Sound M h) (inside (node M i) ++ spot (get_or spare (h - 1) 0) ∷ []) × Apart M h i (get_or spare h 0) (inside (node M i) ++ spot (get_or spare (h - 1) 0) ∷ [])
    ask_more zero w gr l = absurd (w.0 refl)
    ask_more (suc g) w gr l =
        let q = at_parts d N spare g i clip (place_of d N (suc g) i clip) w.1 w.2 w.3 M u w.4 (below g gr) in
        let b = all_used g (below g gr) l in
        let P : ℕ → Type 0 = λ m. AllByRecursion (Sound M (suc g)) (inside (node M i) ++ spot (get_or spare m 0) ∷ []) × Apart M (suc g) i (get_or spare (suc g) 0) (inside (node M i) ++ spot (get_or spare m 0) ∷ []) in
        let x = subst P (down g)
        (more_sound d N spare g i clip (place_of d N (suc g) i clip) w.1 w.2 w.3 M u w.4 (below g gr) b, more_apart d N spare g i clip (place_of d N (suc g) i clip) w.1 w.2 w.3 M u w.4 (below g gr) b) in
        (q.0, q.2, x.0, x.1)

    pub done_more : (h : ℕ) → Known h → EnteredBelow d N M spare (h - 1) (place_in (child h)) clip u → h ≤ u
        → (L : List Node) (r : Bool) → Fitted d M L h i (get_or spare h 0) (inside (node M i) ++ spot (get_or spare (h - 1) 0) ∷ []) r → EnteredBelow d N L spare h i clip (cond r (suc h) h)
    done_more zero w gr l L r t = absurd (w.0 refl)
    done_more (suc g) w gr l L r t =
        more_grown d N spare g i clip (place_of d N (suc g) i clip) w.1 w.2 w.3 M u w.4 (below g gr) (place_is d N (suc g) i clip) L (all_used g (below g gr) l) r
        (subst (λ m. Fitted d M L (suc g) i (get_or spare (suc g) 0) (inside (node M i) ++ spot (get_or spare m 0) ∷ []) r) (sym (down g)) t)

pub sound_parts : (N : List Node) (h i : ℕ) → Sound N (suc h) (spot i) → (i < length N) × (least h ≤ (node N i).len) × ((node N i).len ≤ 8) × AllByRecursion (Sound N h) (inside (node N i))
unfolding Sound
sound_parts N h i s = s

pub some_above : (N : List Node) (h i : ℕ) → (h ≡ 0 → ⊥) → Sound N (suc h) (spot i) → 0 < (node N i).len
unfolding Sound
some_above N zero i ne s = absurd (ne refl)
some_above N (suc h) i ne s = s.1

module _ (d : ℕ) (N : List Node) (spare : List ℕ) (i : ℕ) (clip : StoredClip) where
  clip_sound : Lettered clip → Sound N 0 (kind.Clip clip)
  unfolding Sound
  clip_sound l = l

  pub ask_leaf : (h : ℕ) → h ≡ 0 → h < length spare → Lettered clip → Sound N (suc h) (spot i) → ((k : ℕ) → times N (suc h) (spot i) k + held spare (suc h) k ≤ 1)
      → AllByRecursion (Sound N h) (inside (node N i) ++ kind.Clip clip ∷ []) × Apart N h i (get_or spare h 0) (inside (node N i) ++ kind.Clip clip ∷ [])
  ask_leaf zero e l in-C s a =
      (All-append (Sound N 0) (inside (node N i)) (kind.Clip clip ∷ []) (sound_parts N 0 i s).3 (clip_sound in-C, tt), leaf_apart d N spare i clip l a (inside (node N i) ++ kind.Clip clip ∷ []))
  ask_leaf (suc h) e l in-C s a = absurd (omega arith)

  pub done_leaf : (h : ℕ) → h ≡ 0 → h < length spare → (M : List Node) (r : Bool) → Fitted d N M h i (get_or spare h 0) (inside (node N i) ++ kind.Clip clip ∷ []) r → EnteredBelow d N M spare h i clip (cond r 1 0)
  done_leaf zero e l M r t = leaf_grown d N spare i clip l M r t
  done_leaf (suc h) e l M r t = absurd (omega arith)
