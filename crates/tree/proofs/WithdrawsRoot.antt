-- A number taken out of a tree at its root.
use Rattle.std.proofs.Common.{◌≡◌, ℕ, zero, suc, ◌+◌, ◌-◌, ◌<◌, ◌≤◌, List, [], ◌∷◌, map, length, get_or, set, sym, refl, ap, ◌∙◌, subst, arith, length-set}
use Rattle.std.specs.List.{AllByRecursion}
use Rattle.std.proofs.lemmas.List.{length-map}
use Rattle.std.proofs.ByRecursion.{All-get_or}
use Rattle.rules.specs.Tree.{Box, Entry, Tree, boxed}
use Rattle.rules.specs.Withdraw.{settled}
use Rattle.tree.specs.declared.node.NodeEntry.{NodeEntry}
use Rattle.tree.specs.declared.node.Node.{Node}
use Rattle.tree.specs.Nodes.{no_entry, spot, node, inside, place_in, entry_of, least, Sound, one, total, times}
use Rattle.tree.specs.Leaving.{count_in, out_of, WithdrawnBelow, WithdrawnRoot}
use Rattle.tree.proofs.Frame.{times_spot, spot_sound}
use Rattle.tree.proofs.Fits.{least_some}
use Rattle.tree.proofs.SetsAside.{stock_set}
use Rattle.tree.proofs.Withdraws.{count_at, times_at}

settled_wide : (d h : ℕ) (left : List (Entry h)) → (length left ≡ 1 → ⊥) → settled d h left ≡ (h, boxed d h left)
settled_wide d zero left ne = refl
settled_wide d (suc h) [] ne = refl
settled_wide d (suc h) (b ∷ []) ne = absurd (ne refl)
settled_wide d (suc h) (b ∷ c ∷ bs) ne = refl

settled_leaf : (d h : ℕ) (left : List (Entry h)) → h ≡ 0 → settled d h left ≡ (h, boxed d h left)
settled_leaf d zero left e = refl
settled_leaf d (suc h) left e = absurd (omega arith)

only : {E : Type 0} (xs : List E) (d : E) → length xs ≡ 1 → xs ≡ get_or xs 0 d ∷ []
only [] d e = absurd (omega arith)
only (x ∷ []) d e = refl
only (x ∷ y ∷ xs) d e = absurd (omega arith)

sound_at : (N : List Node) (h i : ℕ) → i < length N → least h ≤ (node N i).len → (node N i).len ≤ 8 → AllByRecursion (Sound N h) (inside (node N i)) → Sound N (suc h) (spot i)
unfolding Sound
sound_at N h i a b c s = (a, b, c, s)

count_spot : (K : List Node) (g : ℕ) (e : NodeEntry) → count_in K (suc g) (spot (place_in e)) ≡ count_in K (suc g) e
unfolding count_in
count_spot K g e = refl

least_zero : (h n : ℕ) → h ≡ 0 → least h ≤ n
least_zero zero n e = omega arith
least_zero (suc h) n e = absurd (omega arith)

module _ (d : ℕ) (N M : List Node) (h i number : ℕ) (W V : List ℕ) (n m : ℕ) (F G : List ℕ) (t u : ℕ) (tk : WithdrawnBelow d N M h i number W V n m F G t u) (inN : i < length N) where
  pub root_in : i < length M
  root_in = omega (arith, tk.long)

  left_long : length (out_of d N h i number).0 ≡ (node M i).len
  unfolding entry_of
  left_long = ap (λ (x : Box (Entry h)). length x.entries) (sym tk.box) ∙ length-map (inside (node M i)) (entry_of d M h) ∙ tk.full

  same : settled d h (out_of d N h i number).0 ≡ (h, boxed d h (out_of d N h i number).0) → least h ≤ (node M i).len → WithdrawnRoot d N M h i number W V n m F G t u h i
  same e l =
      let tree-of : Box (Entry h) → Tree = λ x. (h, x) in
      record {
        long = tk.long;
        tree = ap tree-of tk.box ∙ sym e;
        aside = tk.aside;
        words = tk.words;
        freed = tk.freed;
        boxes = tk.boxes;
        free = tk.free;
        low = tk.low;
        sound = sound_at M h i root_in l tk.few tk.sound;
      }

  pub sunk_leaf : h ≡ 0 → WithdrawnRoot d N M h i number W V n m F G t u h i
  sunk_leaf e = same (settled_leaf d h (out_of d N h i number).0 e) (least_zero h (node M i).len e)

  pub sunk_wide : (h ≡ 0 → ⊥) → 2 ≤ length (inside (node N i)) → ((node M i).len ≡ 1 → ⊥) → WithdrawnRoot d N M h i number W V n m F G t u h i
  sunk_wide ne two wide =
      same (settled_wide d h (out_of d N h i number).0 (λ e. wide (sym left_long ∙ e))) (least_some h (node M i).len (omega (arith, tk.least ne)))

module _ (d : ℕ) (N M : List Node) (g i number : ℕ) (W V : List ℕ) (n m : ℕ) (F G : List ℕ) (t u : ℕ) (tk : WithdrawnBelow d N M (suc g) i number W V n m F G t u)
    (one_left : (node M i).len ≡ 1) (room : count_in N (suc (suc g)) (spot i) ≤ t) (stack : t ≤ length F) where
  abbrev e : NodeEntry
  e = get_or (inside (node M i)) 0 no_entry

  only_e : inside (node M i) ≡ e ∷ []
  only_e = only (inside (node M i)) no_entry (tk.full ∙ one_left)

  left_is : (out_of d N (suc g) i number).0 ≡ entry_of d M (suc g) (spot (place_in e)) ∷ []
  unfolding entry_of
  left_is = ap (λ (x : Box (Entry (suc g))). x.entries) (sym tk.box) ∙ ap (map (entry_of d M (suc g))) only_e

  times_e : (k : ℕ) → times M (suc (suc g)) (spot i) k ≡ one i k + times M (suc g) (spot (place_in e)) k
  times_e k = omega (arith, times_at M (suc g) i k, ap (total (λ x. times M (suc g) x k)) only_e, times_spot M g e k)

  count_e : count_in M (suc (suc g)) (spot i) ≡ 1 + count_in M (suc g) (spot (place_in e))
  count_e = omega (arith, count_at M (suc g) i, ap (total (count_in M (suc g))) only_e, count_spot M g e)

  some : 0 < u
  some = omega (arith, tk.boxes, count_e)

  in_g : u ≤ length G
  in_g = omega (arith, tk.low, tk.free)

  pub sunk_down : WithdrawnRoot d N M (suc g) i number W V n m F (set G (u - 1) i) t (u - 1) g (place_in e)
  sunk_down = record {
    long = tk.long;
    tree = ap (settled d (suc g)) (sym left_is);
    aside = tk.aside;
    words = tk.words;
    freed = λ k. omega (arith, tk.freed k, times_e k, stock_set G u i k some in_g);
    boxes = omega (arith, tk.boxes, count_e, some);
    free = length-set G (u - 1) i ∙ tk.free;
    low = omega (arith, tk.low);
    sound = spot_sound M g e (All-get_or (Sound M (suc g)) (inside (node M i)) 0 no_entry (omega (arith, tk.full)) tk.sound);
  }

  pub room_down : (0 < u) × (u - 1 < length G)
  room_down = (some, omega (arith, some, in_g))

-- at a height as the code has it
module _ (d : ℕ) (N M : List Node) (h i number : ℕ) (W V : List ℕ) (n m : ℕ) (F G : List ℕ) (t u : ℕ) (one_left : (node M i).len ≡ 1) (stack : t ≤ length F) where
  pub ask_lower : (h ≡ 0 → ⊥) → WithdrawnBelow d N M h i number W V n m F G t u → count_in N (suc h) (spot i) ≤ t → (0 < u) × (u - 1 < length G)
  ask_lower ne tk room = go h ne tk room
    where
      go : (h : ℕ) → (h ≡ 0 → ⊥) → WithdrawnBelow d N M h i number W V n m F G t u → count_in N (suc h) (spot i) ≤ t → (0 < u) × (u - 1 < length G)
      go zero ne tk room = absurd (ne refl)
      go (suc g) ne tk room = room_down d N M g i number W V n m F G t u tk one_left room stack

  pub done_lower : (h ≡ 0 → ⊥) → WithdrawnBelow d N M h i number W V n m F G t u → count_in N (suc h) (spot i) ≤ t
      → WithdrawnRoot d N M h i number W V n m F (set G (u - 1) i) t (u - 1) (h - 1) (place_in (get_or (inside (node M i)) 0 no_entry))
  done_lower ne tk room = go h ne tk room
    where
      go : (h : ℕ) → (h ≡ 0 → ⊥) → WithdrawnBelow d N M h i number W V n m F G t u → count_in N (suc h) (spot i) ≤ t
          → WithdrawnRoot d N M h i number W V n m F (set G (u - 1) i) t (u - 1) (h - 1) (place_in (get_or (inside (node M i)) 0 no_entry))
      go zero ne tk room = absurd (ne refl)
      go (suc g) ne tk room =
          let down : g ≡ suc g - 1 = omega arith in
          subst (λ q. WithdrawnRoot d N M (suc g) i number W V n m F (set G (u - 1) i) t (u - 1) q (place_in (get_or (inside (node M i)) 0 no_entry))) down (sunk_down d N M g i number W V n m F G t u tk one_left room stack)
