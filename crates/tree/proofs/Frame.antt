-- A tree reads only its own places.
use Rattle.std.proofs.Common.{◌≡◌, ℕ, zero, suc, ◌<◌, List, [], ◌∷◌, map, length, refl, arith}
use Rattle.std.specs.List.{AllByRecursion}
use Rattle.std.proofs.lemmas.Bool.{eq-eqb}
use Rattle.tree.specs.declared.node.NodeEntry.{NodeEntry}
use Rattle.tree.specs.declared.node.Node.{Node}
use Rattle.tree.specs.Nodes.{spot, place_in, node, inside, entry_of, one, total, times, Sound}

pub one_self : (i : ℕ) → one i i ≡ 1
one_self i = rw (eq-eqb i i refl)

-- an entry above height 0 is as good as its place
module _ (N : List Node) (h : ℕ) (e : NodeEntry) where
  pub times_spot : (k : ℕ) → times N (suc h) (spot (place_in e)) k ≡ times N (suc h) e k
  unfolding times
  times_spot k = refl

  pub entry_spot : (d : ℕ) → entry_of d N (suc h) (spot (place_in e)) ≡ entry_of d N (suc h) e
  unfolding entry_of
  entry_spot d = refl

  pub sound_spot : Sound N (suc h) (spot (place_in e)) → Sound N (suc h) e
  unfolding Sound
  sound_spot s = s

  pub spot_sound : Sound N (suc h) e → Sound N (suc h) (spot (place_in e))
  unfolding Sound
  spot_sound s = s

-- two tables agree on the nodes of the tree at i
abbrev pub Agree : List Node → List Node → ℕ → NodeEntry → Type 0
Agree N M h i = (k : ℕ) → 0 < times N h i k → node M k ≡ node N k

abbrev pub Agrees : List Node → List Node → ℕ → List NodeEntry → Type 0
Agrees N M h es = (k : ℕ) → 0 < total (λ e. times N h e k) es → node M k ≡ node N k

module _ (N M : List Node) where
  root_same : (h : ℕ) (i : NodeEntry) → Agree N M (suc h) i → node M (place_in i) ≡ node N (place_in i)
  unfolding times
  root_same h i a = a (place_in i) (omega (arith, one_self (place_in i)))

  below : (h : ℕ) (i : NodeEntry) → Agree N M (suc h) i → Agrees N M h (inside (node N (place_in i)))
  unfolding times
  below h i a k p = a k (omega arith)

  pub entries_frame : (d : ℕ) (h : ℕ) → ((i : NodeEntry) → Agree N M h i → entry_of d M h i ≡ entry_of d N h i)
      → (es : List NodeEntry) → Agrees N M h es → map (entry_of d M h) es ≡ map (entry_of d N h) es
  entries_frame d h ih [] a = refl
  entries_frame d h ih (e ∷ es) a =
      let p = ih e (λ k q. a k (omega arith)) in
      let q = entries_frame d h ih es (λ k q. a k (omega arith)) in
      cc

  pub entry_frame : (d : ℕ) (h : ℕ) (i : NodeEntry) → Agree N M h i → entry_of d M h i ≡ entry_of d N h i
  unfolding entry_of
  entry_frame d zero i a = refl
  entry_frame d (suc h) i a =
      let r = root_same h i a in
      let s = entries_frame d h (entry_frame d h) (inside (node N (place_in i))) (below h i a) in
      rw r (cc)

  pub totals_frame : (h : ℕ) → ((i : NodeEntry) → Agree N M h i → (k : ℕ) → times M h i k ≡ times N h i k)
      → (es : List NodeEntry) → Agrees N M h es → (k : ℕ) → total (λ e. times M h e k) es ≡ total (λ e. times N h e k) es
  totals_frame h ih [] a k = refl
  totals_frame h ih (e ∷ es) a k =
      omega (arith, ih e (λ k q. a k (omega arith)) k, totals_frame h ih es (λ k q. a k (omega arith)) k)

  pub times_frame : (h : ℕ) (i : NodeEntry) → Agree N M h i → (k : ℕ) → times M h i k ≡ times N h i k
  unfolding times
  times_frame zero i a k = refl
  times_frame (suc h) i a k =
      let s = totals_frame h (times_frame h) (inside (node N (place_in i))) (below h i a) k in
      rw (root_same h i a) (omega arith)

  pub sounds_frame : (h : ℕ) → ((i : NodeEntry) → Agree N M h i → Sound N h i → Sound M h i)
      → (es : List NodeEntry) → Agrees N M h es → AllByRecursion (Sound N h) es → AllByRecursion (Sound M h) es
  sounds_frame h ih [] a s = tt
  sounds_frame h ih (e ∷ es) a s =
      (ih e (λ k q. a k (omega arith)) s.0, sounds_frame h ih es (λ k q. a k (omega arith)) s.1)

  pub sound_frame : length M ≡ length N → (h : ℕ) (i : NodeEntry) → Agree N M h i → Sound N h i → Sound M h i
  unfolding Sound
  sound_frame l zero i a s = s
  sound_frame l (suc h) i a s =
      let all = sounds_frame h (sound_frame l h) (inside (node N (place_in i))) (below h i a) s.3 in
      rw (root_same h i a) (omega arith, s.1, s.2, all)

  -- the same of a list of trees
  pub entries_same : (d : ℕ) (h : ℕ) (es : List NodeEntry) → Agrees N M h es → map (entry_of d M h) es ≡ map (entry_of d N h) es
  entries_same d h es a = entries_frame d h (entry_frame d h) es a

  pub totals_same : (h : ℕ) (es : List NodeEntry) → Agrees N M h es → (k : ℕ) → total (λ e. times M h e k) es ≡ total (λ e. times N h e k) es
  totals_same h es a = totals_frame h (times_frame h) es a

  pub sounds_same : length M ≡ length N → (h : ℕ) (es : List NodeEntry) → Agrees N M h es → AllByRecursion (Sound N h) es → AllByRecursion (Sound M h) es
  sounds_same l h es a = sounds_frame h (sound_frame l h) es a
