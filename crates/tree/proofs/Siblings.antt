-- A clip entered at a leaf, and at a box above.
use Rattle.std.proofs.Common.{◌≡◌, ℕ, zero, suc, ◌+◌, ◌<◌, ◌≤◌, Bool, true, false, cond, List, [], ◌∷◌, ◌++◌, map, length, get_or, take, set, sym, refl, ap, ◌∙◌, subst, ap₂, add-one, arith}
use Rattle.std.specs.List.{AllByRecursion}
use Rattle.std.proofs.lemmas.List.{map-append, take_more}
use Rattle.rules.specs.Enter.{fitted}
use Rattle.space.specs.declared.clip.StoredClip.{StoredClip}
use Rattle.tree.specs.declared.node.NodeEntry.{NodeEntry}
use Rattle.tree.specs.declared.node.NodeEntry.TheVariants as kind
use Rattle.tree.specs.declared.node.Node.{Node}
use Rattle.tree.specs.Nodes.{no_entry, spot, node, inside, entry_of, one, total, times, Sound, Fitted, held, enters, EnteredBelow}
use Rattle.tree.proofs.Frame.{one_self, Agree, Agrees, entries_same, totals_same, sounds_same, entry_frame, times_frame, sound_frame}
use Rattle.tree.proofs.Fits.{Apart}

-- ---- sums
pub total_append : {E : Type 0} (f : E → ℕ) (xs ys : List E) → total f (xs ++ ys) ≡ total f xs + total f ys
total_append f [] ys = omega arith
total_append f (x ∷ xs) ys = omega (arith, total_append f xs ys)

pub total_at : {E : Type 0} (f : E → ℕ) (xs : List E) (p : ℕ) (x : E) → p < length xs → f (get_or xs p x) ≤ total f xs
total_at f [] p y l = absurd (omega arith)
total_at f (x ∷ xs) zero y l = omega arith
total_at f (x ∷ xs) (suc p) y l = omega (arith, total_at f xs p y (omega arith))

pub total_none : {E : Type 0} (xs : List E) → total (λ _. 0) xs ≡ 0
total_none [] = refl
total_none (x ∷ xs) = omega (arith, total_none xs)

pub held_more : (spare : List ℕ) (n k : ℕ) → n < length spare → held spare (suc n) k ≡ held spare n k + one (get_or spare n 0) k
held_more spare n k l =
    ap (λ m. total (λ e. one e k) (take m spare)) (sym (add-one n)) ∙ ap (total (λ e. one e k)) (take_more spare n 0 l)
    ∙ total_append (λ e. one e k) (take n spare) (get_or spare n 0 ∷ []) ∙ omega arith

-- ---- one tree among its siblings changes, and the others stay
module _ (N M : List Node) (h : ℕ) where
  -- what is met in the siblings and not in the tree at c stays
  abbrev pub Rest : NodeEntry → List NodeEntry → Type 0
  Rest c es = (k : ℕ) → 0 < total (λ e. times N h e k) es → times N h c k ≡ 0 → node M k ≡ node N k

  abbrev pub Once : List NodeEntry → Type 0
  Once es = (k : ℕ) → total (λ e. times N h e k) es ≤ 1

  head_agree : (c e : NodeEntry) (es : List NodeEntry) (p : ℕ) → p < length es → get_or es p no_entry ≡ c → Once (e ∷ es) → Rest c (e ∷ es) → Agree N M h e
  head_agree c e es p l is once rest k q =
      rest k (omega arith) (let t = subst (λ x. times N h x k ≤ total (λ e. times N h e k) es) is (total_at (λ e. times N h e k) es p no_entry l) in omega (arith, once k))

  tail_agree : (e : NodeEntry) (es : List NodeEntry) → Once (e ∷ es) → Rest e (e ∷ es) → Agrees N M h es
  tail_agree e es once rest k q = rest k (omega arith) (omega (arith, once k))

  down_rest : (c e : NodeEntry) (es : List NodeEntry) → Rest c (e ∷ es) → Rest c es
  down_rest c e es rest k q z = rest k (omega arith) z

  down_once : (e : NodeEntry) (es : List NodeEntry) → Once (e ∷ es) → Once es
  down_once e es once k = omega (arith, once k)

  pub one_changed : (d : ℕ) (c : NodeEntry) (es : List NodeEntry) (p : ℕ) → p < length es → get_or es p no_entry ≡ c → Once es → Rest c es
      → map (entry_of d M h) es ≡ set (map (entry_of d N h) es) p (entry_of d M h c)
  one_changed d c [] p l is once rest = refl
  one_changed d c (e ∷ es) zero l is once rest =
      let r = subst (λ x. Rest x (e ∷ es)) (sym is) rest in
      ap₂ (λ x xs. x ∷ xs) (ap (entry_of d M h) is) (entries_same N M d h es (tail_agree e es once r))
  one_changed d c (e ∷ es) (suc p) l is once rest =
      ap₂ (λ x xs. x ∷ xs) (entry_frame N M d h e (head_agree c e es p (omega arith) is once rest))
      (one_changed d c es p (omega arith) is (down_once e es once) (down_rest c e es rest))

  pub total_changed : (c : NodeEntry) (es : List NodeEntry) (p : ℕ) → p < length es → get_or es p no_entry ≡ c → Once es → Rest c es
      → (k : ℕ) → total (λ e. times M h e k) es + times N h c k ≡ total (λ e. times N h e k) es + times M h c k
  total_changed c [] p l is once rest k = absurd (omega arith)
  total_changed c (e ∷ es) zero l is once rest k =
      let r = subst (λ x. Rest x (e ∷ es)) (sym is) rest in
      let t = totals_same N M h es (tail_agree e es once r) k in
      subst (λ x. total (λ e. times M h e k) (e ∷ es) + times N h x k ≡ total (λ e. times N h e k) (e ∷ es) + times M h x k) is (omega arith)
  total_changed c (e ∷ es) (suc p) l is once rest k =
      omega (arith, times_frame N M h e (head_agree c e es p (omega arith) is once rest) k, total_changed c es p (omega arith) is (down_once e es once) (down_rest c e es rest) k)

  pub sound_changed : length M ≡ length N → (c : NodeEntry) (es : List NodeEntry) (p : ℕ) → p < length es → get_or es p no_entry ≡ c → Once es → Rest c es
      → Sound M h c → AllByRecursion (Sound N h) es → AllByRecursion (Sound M h) es
  sound_changed len c [] p l is once rest s all = tt
  sound_changed len c (e ∷ es) zero l is once rest s all =
      let r = subst (λ x. Rest x (e ∷ es)) (sym is) rest in
      (subst (Sound M h) (sym is) s, sounds_same N M len h es (tail_agree e es once r) all.1)
  sound_changed len c (e ∷ es) (suc p) l is once rest s all = (
    sound_frame N M len h e (head_agree c e es p (omega arith) is once rest) all.0,
    sound_changed len c es p (omega arith) is (down_once e es once) (down_rest c e es rest) s all.1,
  )

pub total_take_le : {E : Type 0} (f : E → ℕ) (u n : ℕ) (xs : List E) → u ≤ n → total f (take u xs) ≤ total f (take n xs)
total_take_le f zero n xs l = omega arith
total_take_le f (suc u) zero xs l = absurd (omega arith)
total_take_le f (suc u) (suc n) [] l = omega arith
total_take_le f (suc u) (suc n) (x ∷ xs) l = omega (arith, total_take_le f u n xs (omega arith))

pub one_apart : (i k : ℕ) → one i k ≡ 0 → k ≡ i → ⊥
one_apart i k z e = let w : one i i ≡ 0 = subst (λ m. one i m ≡ 0) e z in omega (arith, one_self i)

-- ---- at a leaf
module _ (d : ℕ) (N : List Node) (spare : List ℕ) (i : ℕ) (clip : StoredClip) (some : 0 < length spare) where
  leaf_times : (k : ℕ) → times N 1 (spot i) k ≡ one i k
  unfolding times
  leaf_times k = omega (arith, total_none (inside (node N i)))

  leaf_total : (es : List NodeEntry) (k : ℕ) → total (λ e. times N 0 e k) es ≡ 0
  unfolding times
  leaf_total es k = total_none es

  first_held : (k : ℕ) → held spare 1 k ≡ one (get_or spare 0 0) k
  first_held k = omega (arith, held_more spare 0 k some)

  pub leaf_apart : ((k : ℕ) → times N 1 (spot i) k + held spare 1 k ≤ 1) → (es : List NodeEntry) → Apart N 0 i (get_or spare 0 0) es
  leaf_apart a es k = omega (arith, a k, leaf_times k, leaf_total es k, first_held k)

  leaf_entries : fitted d 0 (map (entry_of d N 0) (inside (node N i) ++ kind.Clip clip ∷ [])) ≡ enters d N 0 i clip
  unfolding entry_of
  leaf_entries = ap (fitted d 0) (map-append (entry_of d N 0) (inside (node N i)) (kind.Clip clip ∷ []))

  pub leaf_grown : (M : List Node) (r : Bool) → Fitted d N M 0 i (get_or spare 0 0) (inside (node N i) ++ kind.Clip clip ∷ []) r → EnteredBelow d N M spare 0 i clip (cond r 1 0)
  leaf_grown M true s = record {
    long = s.long;
    used = omega arith;
    first = s.first ∙ ap (λ x. x.0) leaf_entries;
    second = s.second ∙ ap (λ x. x.1) leaf_entries;
    count = λ k. omega (arith, s.count k, leaf_times k, leaf_total (inside (node N i) ++ kind.Clip clip ∷ []) k, first_held k);
    frame = λ k z w. s.frame k (one_apart i k (omega (arith, leaf_times k))) (one_apart (get_or spare 0 0) k (omega (arith, first_held k)));
    sound = s.sound;
    other = λ _. s.other refl;
  }
  leaf_grown M false s = record {
    long = s.long;
    used = omega arith;
    first = s.first ∙ ap (λ x. x.0) leaf_entries;
    second = s.second ∙ ap (λ x. x.1) leaf_entries;
    count = λ k. omega (arith, s.count k, leaf_times k, leaf_total (inside (node N i) ++ kind.Clip clip ∷ []) k, first_held k);
    frame = λ k z w. s.frame k (one_apart i k (omega (arith, leaf_times k))) (one_apart (get_or spare 0 0) k (omega (arith, first_held k)));
    sound = s.sound;
    other = λ e. absurd (omega arith);
  }
