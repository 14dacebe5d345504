-- The tree of an entry moved out, and what stands at an entry above height 0.
use Rattle.std.proofs.Common.{◌≡◌, ℕ, zero, suc, ◌+◌, ◌-◌, ◌*◌, ◌<◌, ◌≤◌, List, [], ◌∷◌, ◌++◌, map, length, get_or, take, drop, set, sym, refl, ap, ◌∙◌, subst, add-one, arith, length-set}
use Rattle.std.specs.List.{flat_map, AllByRecursion, list_any}
use Rattle.std.proofs.lemmas.List.{take_more, drop-set, take_all, length-append, flat_map_more, append-nil}
use Rattle.rules.specs.Tree.{rows_below}
use Rattle.rules.specs.Rows.{lists}
use Rattle.space.specs.declared.clip.StoredClip.{StoredClip}
use Rattle.tree.specs.declared.node.NodeEntry.{NodeEntry}
use Rattle.tree.specs.declared.node.Node.{Node}
use Rattle.tree.specs.Nodes.{no_entry, node, inside, clip_in, place_in, entry_of, Sound, Lettered, one, total, times}
use Rattle.tree.specs.Leaving.{listed_in, asides, clips_in, count_in, Within, SetAside, stock}
use Rattle.tree.proofs.Siblings.{total_append, total_take_le}
use Rattle.tree.proofs.Looks.{lists_any, listed_up}

down : (g : ℕ) → g ≡ suc g - 1
down g = omega arith

-- the parts of what stands above height 0, at the place q of the entry
pub sound_up : (N : List Node) (h : ℕ) (e : NodeEntry) → (h ≡ 0 → ⊥) → Sound N h e → (q : ℕ) → q ≡ place_in e → (q < length N) × ((node N q).len ≤ 8) × AllByRecursion (Sound N (h - 1)) (inside (node N q))
unfolding Sound
sound_up N zero e ne s q is = absurd (ne refl)
sound_up N (suc h) e ne s q is =
    let P : ℕ → Type 0 = λ q. (q < length N) × ((node N q).len ≤ 8) × AllByRecursion (Sound N (suc h - 1)) (inside (node N q)) in
    subst P (sym is) (s.0, s.2, subst (λ g. AllByRecursion (Sound N g) (inside (node N (place_in e)))) (down h) s.3)

pub within_up : (N : List Node) (h : ℕ) (e : NodeEntry) → (h ≡ 0 → ⊥) → Within N h e → (q : ℕ) → q ≡ place_in e → (q < length N) × ((node N q).len ≤ 8) × AllByRecursion (Within N (h - 1)) (inside (node N q))
unfolding Within
within_up N zero e ne s q is = absurd (ne refl)
within_up N (suc h) e ne s q is =
    let P : ℕ → Type 0 = λ q. (q < length N) × ((node N q).len ≤ 8) × AllByRecursion (Within N (suc h - 1)) (inside (node N q)) in
    subst P (sym is) (s.0, s.1, subst (λ g. AllByRecursion (Within N g) (inside (node N (place_in e)))) (down h) s.2)

pub within_leaf : (N : List Node) (h : ℕ) (e : NodeEntry) → h ≡ 0 → Within N h e → Lettered (clip_in e)
unfolding Within
within_leaf N zero e z s = s
within_leaf N (suc h) e z s = absurd (omega arith)

sounds_within : (N : List Node) (h : ℕ) → ((e : NodeEntry) → Sound N h e → Within N h e) → (es : List NodeEntry) → AllByRecursion (Sound N h) es → AllByRecursion (Within N h) es
sounds_within N h ih [] s = tt
sounds_within N h ih (e ∷ es) s = (ih e s.0, sounds_within N h ih es s.1)

pub sound_within : (N : List Node) (h : ℕ) (e : NodeEntry) → Sound N h e → Within N h e
unfolding Sound Within
sound_within N zero e s = s
sound_within N (suc h) e s = (s.0, s.2, sounds_within N h (sound_within N h) (inside (node N (place_in e))) s.3)

pub all_within : (N : List Node) (h : ℕ) (es : List NodeEntry) → AllByRecursion (Sound N h) es → AllByRecursion (Within N h) es
all_within N h es s = sounds_within N h (sound_within N h) es s

pub within_from : (N : List Node) (h : ℕ) (e : NodeEntry) → place_in e < length N → (node N (place_in e)).len ≤ 8 → AllByRecursion (Within N h) (inside (node N (place_in e))) → Within N (suc h) e
unfolding Within
within_from N h e a b c = (a, b, c)

-- ---- a number, found or not among the entries es of the place q
module _ (N : List Node) (n h : ℕ) (e : NodeEntry) (q : ℕ) (ne : h ≡ 0 → ⊥) (is : q ≡ place_in e) (es : List NodeEntry) (es-is : es ≡ inside (node N q)) (d : ℕ) where
  up_is : listed_in d N h n e ≡ lists n (rows_below (h - 1) (map (entry_of d N (h - 1)) es))
  up_is = listed_up d N n h e ne ∙ ap (λ p. lists n (rows_below (h - 1) (map (entry_of d N (h - 1)) (inside (node N p))))) (sym is) ∙ ap (λ x. lists n (rows_below (h - 1) (map (entry_of d N (h - 1)) x))) (sym es-is)

  pub listed_any : list_any (listed_in d N (h - 1) n) es ≡ listed_in d N h n e
  listed_any = lists_any d N n (h - 1) es ∙ sym up_is

-- ---- sums over a list that is walked
pub total_more : {E : Type 0} (f : E → ℕ) (es : List E) (k : ℕ) (d : E) → k < length es → total f (take (k + 1) es) ≡ total f (take k es) + f (get_or es k d)
total_more f es k d l = ap (total f) (take_more es k d l) ∙ total_append f (take k es) (get_or es k d ∷ []) ∙ omega arith

pub total_room : {E : Type 0} (f : E → ℕ) (es : List E) (k : ℕ) (d : E) → k < length es → total f (take k es) + f (get_or es k d) ≤ total f es
total_room f es k d l =
    omega (arith, total_more f es k d l, total_take_le f (k + 1) (length es) es (omega arith), ap (total f) (take_all (length es) es (omega arith)))

pub length_joined_total : {E F : Type 0} (f : E → List F) (es : List E) → length (flat_map f es) ≡ total (λ e. length (f e)) es
length_joined_total f [] = refl
length_joined_total f (e ∷ es) = length-append (f e) (flat_map f es) ∙ omega (arith, length_joined_total f es)

pub stock_set : (F : List ℕ) (t p k : ℕ) → 0 < t → t ≤ length F → stock (set F (t - 1) p) (t - 1) k ≡ stock F t k + one p k
stock_set F t p k z l =
    let e : t - 1 + 1 ≡ t = omega arith in
    let m : t - 1 < length F = omega arith in
    let w = ap (total (λ e. one e k)) (drop-set F (t - 1) p m) ∙ ap (λ n. one p k + total (λ e. one e k) (drop n F)) e in
    omega (arith, w)

-- ---- what a tree is above height 0
module _ (N : List Node) (h : ℕ) (e : NodeEntry) (q : ℕ) (is : q ≡ place_in e) where
  pub clips_up : (h ≡ 0 → ⊥) → clips_in N h e ≡ flat_map (clips_in N (h - 1)) (inside (node N q))
  unfolding clips_in
  clips_up ne = go h ne
    where
      go : (h : ℕ) → (h ≡ 0 → ⊥) → clips_in N h e ≡ flat_map (clips_in N (h - 1)) (inside (node N q))
      go zero ne = absurd (ne refl)
      go (suc g) ne = ap (λ p. flat_map (clips_in N g) (inside (node N p))) (sym is) ∙ ap (λ m. flat_map (clips_in N m) (inside (node N q))) (down g)

  pub count_up : (h ≡ 0 → ⊥) → count_in N h e ≡ 1 + total (count_in N (h - 1)) (inside (node N q))
  unfolding count_in
  count_up ne = go h ne
    where
      go : (h : ℕ) → (h ≡ 0 → ⊥) → count_in N h e ≡ 1 + total (count_in N (h - 1)) (inside (node N q))
      go zero ne = absurd (ne refl)
      go (suc g) ne = ap (λ p. 1 + total (count_in N g) (inside (node N p))) (sym is) ∙ ap (λ m. 1 + total (count_in N m) (inside (node N q))) (down g)

  pub times_up : (h ≡ 0 → ⊥) → (k : ℕ) → times N h e k ≡ one q k + total (λ x. times N (h - 1) x k) (inside (node N q))
  unfolding times
  times_up ne k = go h ne
    where
      go : (h : ℕ) → (h ≡ 0 → ⊥) → times N h e k ≡ one q k + total (λ x. times N (h - 1) x k) (inside (node N q))
      go zero ne = absurd (ne refl)
      go (suc g) ne = ap (λ p. one p k + total (λ x. times N g x k) (inside (node N p))) (sym is) ∙ ap (λ m. one q k + total (λ x. times N m x k) (inside (node N q))) (down g)

clips_leaf : (N : List Node) (h : ℕ) (e : NodeEntry) → h ≡ 0 → clips_in N h e ≡ clip_in e ∷ []
unfolding clips_in
clips_leaf N zero e z = refl
clips_leaf N (suc h) e z = absurd (omega arith)

pub clips_leaf_long : (N : List Node) (h : ℕ) (e : NodeEntry) → h ≡ 0 → length (clips_in N h e) ≡ 1
clips_leaf_long N h e z = ap length (clips_leaf N h e z)

leaf_counts : (N : List Node) (h : ℕ) (e : NodeEntry) → h ≡ 0 → (count_in N h e ≡ 0) × ((k : ℕ) → times N h e k ≡ 0)
unfolding count_in times
leaf_counts N zero e z = (refl, λ k. refl)
leaf_counts N (suc h) e z = absurd (omega arith)

pub spilled_leaf : (N : List Node) (h : ℕ) (e : NodeEntry) (W V : List ℕ) (n : ℕ) (F : List ℕ) (t : ℕ) (c : StoredClip) → h ≡ 0 → c ≡ clip_in e
    → asides V (suc n) ≡ asides W n ++ c ∷ [] → length V ≡ length W → SetAside N h e W V n (n + 1) F F t t
spilled_leaf N h e W V n F t c z is a l =
    let q = clips_leaf N h e z in
    let f = leaf_counts N h e z in
    record {
      aside = ap (asides V) (add-one n) ∙ a ∙ ap (λ x. asides W n ++ x ∷ []) is ∙ ap (λ x. asides W n ++ x) (sym q);
      more = omega (arith, ap length q);
      words = l;
      freed = λ k. omega (arith, f.1 k);
      top = omega (arith, f.0);
      free = refl;
    }

-- the state of the walk over the entries es of the place q, at k
pub record Walk (N : List Node) (g q : ℕ) (es : List NodeEntry) (W V : List ℕ) (n m : ℕ) (F G : List ℕ) (t u k : ℕ) : Type 0 where
  pub aside : asides V m ≡ asides W n ++ flat_map (clips_in N g) (take k es)
  pub more : m ≡ n + total (λ x. length (clips_in N g x)) (take k es)
  pub words : length V ≡ length W
  pub freed : (p : ℕ) → stock G u p ≡ stock F (t - 1) p + total (λ x. times N g x p) (take k es)
  pub top : u + 1 + total (count_in N g) (take k es) ≡ t
  pub free : length G ≡ length F

pub walk_start : (N : List Node) (g q : ℕ) (es : List NodeEntry) (W : List ℕ) (n : ℕ) (F : List ℕ) (t : ℕ) → 0 < t → Walk N g q es W W n n F F t (t - 1) 0
walk_start N g q es W n F t z = record {
  aside = sym (append-nil (asides W n));
  more = omega arith;
  words = refl;
  freed = λ p. omega arith;
  top = omega arith;
  free = refl;
}

pub walk_step : (N : List Node) (g q : ℕ) (es : List NodeEntry) (W V X : List ℕ) (n m a : ℕ) (F G H : List ℕ) (t u b k : ℕ) → k < length es
    → Walk N g q es W V n m F G t u k → SetAside N g (get_or es k no_entry) V X m a G H u b → Walk N g q es W X n a F H t b (k + 1)
walk_step N g q es W V X n m a F G H t u b k l w s = record {
  aside = s.aside ∙ ap (λ x. x ++ clips_in N g (get_or es k no_entry)) w.aside ∙ flat_map_more (clips_in N g) (asides W n) (take k es) (get_or es k no_entry) ∙ ap (λ x. asides W n ++ flat_map (clips_in N g) x) (sym (take_more es k no_entry l));
  more = omega (arith, s.more, w.more, total_more (λ x. length (clips_in N g x)) es k no_entry l);
  words = s.words ∙ w.words;
  freed = λ p. omega (arith, s.freed p, w.freed p, total_more (λ x. times N g x p) es k no_entry l);
  top = omega (arith, s.top, w.top, total_more (count_in N g) es k no_entry l);
  free = s.free ∙ w.free;
}

pub walk_end : (N : List Node) (h q : ℕ) (e : NodeEntry) (es : List NodeEntry) (W V : List ℕ) (n m : ℕ) (F G : List ℕ) (t u k : ℕ) → (h ≡ 0 → ⊥) → q ≡ place_in e → es ≡ inside (node N q)
    → length es ≤ k → t ≤ length F → Walk N (h - 1) q es W V n m (set F (t - 1) q) G t u k → SetAside N h e W V n m F G t u
walk_end N h q e es W V n m F G t u k ne is es-is l in-F w =
    let all : take k es ≡ inside (node N q) = take_all k es l ∙ es-is in
    let c = clips_up N h e q is ne in
    record {
      aside = w.aside ∙ ap (λ x. asides W n ++ flat_map (clips_in N (h - 1)) x) all ∙ ap (λ x. asides W n ++ x) (sym c);
      more = omega (arith, w.more, ap (total (λ x. length (clips_in N (h - 1) x))) all, length_joined_total (clips_in N (h - 1)) (inside (node N q)), ap length c);
      words = w.words;
      freed = λ p. omega (arith, w.freed p, stock_set F t q p (omega (arith, w.top)) in-F, ap (total (λ x. times N (h - 1) x p)) all, times_up N h e q is ne p);
      top = omega (arith, w.top, ap (total (count_in N (h - 1))) all, count_up N h e q is ne);
      free = w.free ∙ length-set F (t - 1) q;
    }

-- the room that the walk has at k
pub walk_room : (N : List Node) (h q : ℕ) (e : NodeEntry) (es : List NodeEntry) (W V : List ℕ) (n m : ℕ) (F G : List ℕ) (t u k : ℕ) → (h ≡ 0 → ⊥) → q ≡ place_in e → es ≡ inside (node N q)
    → k < length es → Walk N (h - 1) q es W V n m (set F (t - 1) q) G t u k → 2 * (n + length (clips_in N h e)) ≤ length W → count_in N h e ≤ t → t ≤ length F
    → (2 * (m + length (clips_in N (h - 1) (get_or es k no_entry))) ≤ length V) × (count_in N (h - 1) (get_or es k no_entry) ≤ u) × (u ≤ length G)
walk_room N h q e es W V n m F G t u k ne is es-is l w a b f =
    let c = ap length (clips_up N h e q is ne) ∙ length_joined_total (clips_in N (h - 1)) (inside (node N q)) ∙ ap (total (λ x. length (clips_in N (h - 1) x))) (sym es-is) in
    let d = count_up N h e q is ne ∙ ap (λ x. 1 + total (count_in N (h - 1)) x) (sym es-is) in (
      omega (arith, w.more, w.words, c, total_room (λ x. length (clips_in N (h - 1) x)) es k no_entry l),
      omega (arith, w.top, d, total_room (count_in N (h - 1)) es k no_entry l),
      omega (arith, w.top, w.free, length-set F (t - 1) q),
    )
