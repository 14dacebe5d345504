-- The steps of a withdrawal at a height that is more than 0, as the code has it: what each asks, and what it leaves.
use Rattle.std.proofs.Common.{◌≡◌, ℕ, zero, suc, ◌+◌, ◌-◌, ◌*◌, ◌<◌, ◌≤◌, Bool, true, false, cond, ◌||◌, List, [], ◌∷◌, map, length, get_or, sym, refl, ap, ◌∙◌, subst, arith}
use Rattle.std.specs.List.{AllByRecursion}
use Rattle.std.proofs.lemmas.Bool.{false≢true}
use Rattle.rules.specs.Tree.{rows_below}
use Rattle.rules.specs.Rows.{lists}
use Rattle.rules.specs.Withdraw.{holder}
use Rattle.tree.specs.declared.node.NodeEntry.{NodeEntry}
use Rattle.tree.specs.declared.node.Node.{Node}
use Rattle.tree.specs.Nodes.{no_entry, spot, node, inside, place_in, entry_of, Sound, times, Written}
use Rattle.tree.specs.Leaving.{rows_of, listed_in, first_index, kept, clips_in, count_in, Within, SetAside, WithdrawnBelow}
use Rattle.tree.proofs.Looks.{holder_first, rows_first, lists_append}
use Rattle.tree.proofs.EntersAt.{sound_parts}
use Rattle.tree.proofs.Withdraws.{leaf_taken}
use Rattle.tree.proofs.WithdrawsUp.{but, child_apart, child_clips, child_count, child_sound, own_inside, in_m, few_m, child_in_m, keep_sound, out_sound, child_within, child_room, taken_keep, taken_out}

down : (g : ℕ) → g ≡ suc g - 1
down g = omega arith

-- ---- the first entry that lists the number
module _ (d : ℕ) (N : List Node) (n h : ℕ) where
  lists_cons : (e : NodeEntry) (es : List NodeEntry) → lists n (rows_below h (map (entry_of d N h) (e ∷ es))) ≡ (listed_in d N h n e || lists n (rows_below h (map (entry_of d N h) es)))
  unfolding listed_in
  lists_cons e es = ap (lists n) (rows_first h (entry_of d N h e) (map (entry_of d N h) es)) ∙ lists_append n (rows_of h (entry_of d N h e)) (rows_below h (map (entry_of d N h) es))

  lists_nil : (g : ℕ) → lists n (rows_below g []) ≡ false
  lists_nil zero = refl
  lists_nil (suc g) = refl

  pub first_found : (es : List NodeEntry) → lists n (rows_below h (map (entry_of d N h) es)) ≡ true
      → (first_index (listed_in d N h n) es < length es) × (listed_in d N h n (get_or es (first_index (listed_in d N h n) es) no_entry) ≡ true)
  first_found [] e = absurd (false≢true (sym (lists_nil h) ∙ e))
  first_found (x ∷ es) e = go (listed_in d N h n x) refl (first_found es) (sym (lists_cons x es) ∙ e)
    where
      go : (b : Bool) → listed_in d N h n x ≡ b
          → (lists n (rows_below h (map (entry_of d N h) es)) ≡ true → (first_index (listed_in d N h n) es < length es) × (listed_in d N h n (get_or es (first_index (listed_in d N h n) es) no_entry) ≡ true))
          → (b || lists n (rows_below h (map (entry_of d N h) es))) ≡ true
          → (cond b 0 (suc (first_index (listed_in d N h n) es)) < suc (length es)) × (listed_in d N h n (get_or (x ∷ es) (cond b 0 (suc (first_index (listed_in d N h n) es))) no_entry) ≡ true)
      go true is more e = (omega arith, is)
      go false is more e = let k = more e in (omega (arith, k.0), k.1)

  pub listed_at : (i : ℕ) → listed_in d N (suc h) n (spot i) ≡ true → lists n (rows_below h (map (entry_of d N h) (inside (node N i)))) ≡ true
  unfolding listed_in entry_of
  listed_at i e = e

module _ (d : ℕ) (N : List Node) (i number p : ℕ) where
  abbrev pub below : ℕ
  below = place_in (get_or (inside (node N i)) p no_entry)

  -- what is known at a height
  pub record Known (h : ℕ) : Type 0 where
    pub up : h ≡ 0 → ⊥
    pub apart : (k : ℕ) → times N (suc h) (spot i) k ≤ 1
    pub sound : Sound N (suc h) (spot i)
    pub first : p ≡ first_index (listed_in d N h number) (inside (node N i))
    pub within : p < length (inside (node N i))
    pub listed : listed_in d N h number (get_or (inside (node N i)) p no_entry) ≡ true

  pub known : (h : ℕ) → (h ≡ 0 → ⊥) → ((k : ℕ) → times N (suc h) (spot i) k ≤ 1) → Sound N (suc h) (spot i) → p ≡ first_index (listed_in d N h number) (inside (node N i))
      → listed_in d N (suc h) number (spot i) ≡ true → Known h
  known h ne a s f l =
      let k = first_found d N number h (inside (node N i)) (listed_at d N number h i l) in
      record {
        up = ne;
        apart = a;
        sound = s;
        first = f;
        within = subst (λ q. q < length (inside (node N i))) (sym f) k.0;
        listed = subst (λ q. listed_in d N h number (get_or (inside (node N i)) q no_entry) ≡ true) (sym f) k.1;
      }

  listed_spot : (g : ℕ) (e : NodeEntry) → listed_in d N (suc g) number e ≡ true → listed_in d N (suc g) number (spot (place_in e)) ≡ true
  unfolding listed_in entry_of
  listed_spot g e l = l

  holder_is : (g : ℕ) → p ≡ first_index (listed_in d N (suc g) number) (inside (node N i)) → p ≡ holder g number (map (entry_of d N (suc g)) (inside (node N i)))
  holder_is g f = f ∙ sym (holder_first d N number g (inside (node N i)))

  pub ask_down : (h : ℕ) → Known h → Sound N (suc (h - 1)) (spot below) × (listed_in d N (suc (h - 1)) number (spot below) ≡ true) × ((k : ℕ) → times N (suc (h - 1)) (spot below) k ≤ 1)
      × (length (clips_in N (suc (h - 1)) (spot below)) ≤ length (clips_in N (suc h) (spot i))) × (count_in N (suc (h - 1)) (spot below) ≤ count_in N (suc h) (spot i))
  ask_down zero w = absurd (w.up refl)
  ask_down (suc g) w =
      let P : ℕ → Type 0 = λ m. Sound N (suc m) (spot below) × (listed_in d N (suc m) number (spot below) ≡ true) × ((k : ℕ) → times N (suc m) (spot below) k ≤ 1)
      × (length (clips_in N (suc m) (spot below)) ≤ length (clips_in N (suc (suc g)) (spot i))) × (count_in N (suc m) (spot below) ≤ count_in N (suc (suc g)) (spot i)) in
      subst P (down g) (
        child_sound d N g i number p w.apart w.sound w.within,
        listed_spot g (get_or (inside (node N i)) p no_entry) w.listed,
        child_apart d N g i number p w.apart w.sound w.within,
        child_clips d N g i number p w.apart w.sound w.within,
        child_count d N g i number p w.apart w.sound w.within,
      )

  module _ (M : List Node) (W V : List ℕ) (n m : ℕ) (F G : List ℕ) (t u : ℕ) where
    low : (g : ℕ) → WithdrawnBelow d N M (suc g - 1) below number W V n m F G t u → WithdrawnBelow d N M g below number W V n m F G t u
    low g tk = subst (λ h. WithdrawnBelow d N M h below number W V n m F G t u) (sym (down g)) tk

    pub ask_len : (h : ℕ) → Known h → WithdrawnBelow d N M (h - 1) below number W V n m F G t u → below < length M
    ask_len zero w tk = absurd (w.up refl)
    ask_len (suc g) w tk = child_in_m d N g i number p w.apart w.sound w.within M W V n m F G t u (low g tk)

    pub ask_keep : (h : ℕ) → Known h → WithdrawnBelow d N M (h - 1) below number W V n m F G t u → 3 ≤ (node M below).len
        → (i < length M) × ((node M i).len ≤ 8) × AllByRecursion (Sound M h) (inside (node M i))
    ask_keep zero w tk l = absurd (w.up refl)
    ask_keep (suc g) w tk l = (
      in_m d N g i number p w.apart w.sound w.within M W V n m F G t u (low g tk),
      few_m d N g i number p w.apart w.sound w.within M W V n m F G t u (low g tk),
      subst (AllByRecursion (Sound M (suc g))) (sym (own_inside d N g i number p w.apart w.sound w.within M W V n m F G t u (low g tk))) (keep_sound d N g i number p w.apart w.sound w.within M W V n m F G t u (low g tk) l),
    )

    pub done_keep : (h : ℕ) → Known h → WithdrawnBelow d N M (h - 1) below number W V n m F G t u → 3 ≤ (node M below).len → (L : List Node) → Written d M L h i (inside (node M i)) → WithdrawnBelow d N L h i number W V n m F G t u
    done_keep zero w tk l L q = absurd (w.up refl)
    done_keep (suc g) w tk l L q =
        taken_keep d N g i number p w.apart w.sound w.within M W V n m F G t u (low g tk) L (holder_is g w.first) l
        (subst (Written d M L (suc g) i) (own_inside d N g i number p w.apart w.sound w.within M W V n m F G t u (low g tk)) q)

    pub ask_spill : (h : ℕ) → Known h → WithdrawnBelow d N M (h - 1) below number W V n m F G t u
        → 2 * (n + length (clips_in N (suc h) (spot i))) ≤ length W → count_in N (suc h) (spot i) ≤ t → t ≤ length F
        → Within M h (spot below) × (2 * (m + length (clips_in M h (spot below))) ≤ length V) × (count_in M h (spot below) ≤ u) × (u ≤ length G)
    ask_spill zero w tk a b f = absurd (w.up refl)
    ask_spill (suc g) w tk a b f =
        let r = child_room d N g i number p w.apart w.sound w.within M W V n m F G t u (low g tk) a b f in
        (child_within d N g i number p w.apart w.sound w.within M W V n m F G t u (low g tk), r.0, r.1, r.2)

    pub ask_out : (h : ℕ) → Known h → WithdrawnBelow d N M (h - 1) below number W V n m F G t u
        → (i < length M) × ((node M i).len ≤ 8) × (p < length (inside (node M i))) × AllByRecursion (Sound M h) (but p (inside (node M i)))
    ask_out zero w tk = absurd (w.up refl)
    ask_out (suc g) w tk =
        let o = own_inside d N g i number p w.apart w.sound w.within M W V n m F G t u (low g tk) in (
          in_m d N g i number p w.apart w.sound w.within M W V n m F G t u (low g tk),
          few_m d N g i number p w.apart w.sound w.within M W V n m F G t u (low g tk),
          subst (λ es. p < length es) (sym o) w.within,
          subst (λ es. AllByRecursion (Sound M (suc g)) (but p es)) (sym o) (out_sound d N g i number p w.apart w.sound w.within M W V n m F G t u (low g tk)),
        )

    pub done_out : (h : ℕ) → Known h → WithdrawnBelow d N M (h - 1) below number W V n m F G t u → (node M below).len < 3 → (L : List Node) (X : List ℕ) (a : ℕ) (H : List ℕ) (b : ℕ)
        → SetAside M h (spot below) V X m a G H u b → Written d M L h i (but p (inside (node M i))) → WithdrawnBelow d N L h i number W X n a F H t b
    done_out zero w tk l L X a H b sp q = absurd (w.up refl)
    done_out (suc g) w tk l L X a H b sp q =
        taken_out d N g i number p w.apart w.sound w.within M W V n m F G t u (low g tk) L (holder_is g w.first) l X a H b sp
        (subst (λ es. Written d M L (suc g) i (but p es)) (own_inside d N g i number p w.apart w.sound w.within M W V n m F G t u (low g tk)) q)

pub ask_strip : (N : List Node) (h i : ℕ) → h ≡ 0 → Sound N (suc h) (spot i) → (i < length N) × ((node N i).len ≤ 8) × AllByRecursion (Sound N 0) (inside (node N i))
ask_strip N zero i e s = let p = sound_parts N 0 i s in (p.0, p.2, p.3)
ask_strip N (suc h) i e s = absurd (omega arith)

pub done_strip : (d : ℕ) (N M : List Node) (h i number : ℕ) (W : List ℕ) (n : ℕ) (F : List ℕ) (t : ℕ) → h ≡ 0 → Sound N (suc h) (spot i) → Written d N M 0 i (kept number (inside (node N i)))
    → WithdrawnBelow d N M h i number W W n n F F t t
done_strip d N M zero i number W n F t e s q = let p = ask_strip N zero i e s in leaf_taken d N M i number W n F t p.0 p.1 p.2 q
done_strip d N M (suc h) i number W n F t e s q = absurd (omega arith)
