-- A clip withdrawn from a tree in its table: taken out, the clips set aside put in order, and entered again.
use Rattle.std.proofs.Common.{◌≡◌, ℕ, zero, suc, ◌+◌, ◌*◌, ◌^◌, ◌<◌, ◌≤◌, true, cond, ltb, List, [], ◌++◌, length, sym, refl, ap, ◌∙◌, subst, ap₂, arith}
use Rattle.std.proofs.lemmas.List.{length-append, length-map, length_push}
use Rattle.space.specs.Row.{stored_row, stored_rows}
use Rattle.ranked.specs.Same.{Same}
use Rattle.ranked.proofs.Sames.{length_same}
use Rattle.rules.specs.Tree.{Tree, rows_in}
use Rattle.rules.specs.Build.{Build, fewest}
use Rattle.rules.specs.Rows.{lists, without, rising}
use Rattle.rules.specs.Finds.{Once}
use Rattle.rules.specs.Enter.{entered_all}
use Rattle.rules.specs.LawsWithdraw.{left_in, aside_in}
use Rattle.rules.proofs.Times.{times_append, times_same, listed_times, length_without, times_without, single_once, once_single}
use Rattle.rules.proofs.Withdrawing.{withdrawing_leaves}
use Rattle.tree.specs.declared.node.Node.{Node}
use Rattle.tree.specs.Nodes.{node, inside, spot, entry_of, tree_of}
use Rattle.tree.specs.Leaving.{asides, InOrder, clips_in, count_in, listed_in, WithdrawnRoot}
use Rattle.tree.specs.Standing.{Stands, rows_of, EnteredAgain, Withdrew}
use Rattle.tree.proofs.Tallies.{used_count, half_less}
use Rattle.tree.proofs.Withdraws.{clips_rows}

-- ---- what the rules' laws say of a tree of the build
module _ (d : ℕ) (t : Tree) (n : ℕ) (build : Build d t) (once : Once (rows_in t)) (listed : lists n (rows_in t) ≡ true) where
  left_build : Build d (left_in d t n)
  left_build = (withdrawing_leaves d t n build once listed).0

  left_rows : Same (rows_in (left_in d t n) ++ aside_in d t n) (without n (rows_in t))
  left_rows = (withdrawing_leaves d t n build once listed).1

  left_fewer : length (rows_in (left_in d t n)) + length (aside_in d t n) < length (rows_in t)
  left_fewer = omega (arith, length_same left_rows, length-append (rows_in (left_in d t n)) (aside_in d t n), length_without n (rows_in t), listed_times n (rows_in t) listed)

  aside_once : Once (aside_in d t n)
  aside_once = single_once (aside_in d t n) (λ m. omega (arith, once_single (rows_in t) once m, times_without m n (rows_in t), times_same m left_rows, times_append m (rows_in (left_in d t n)) (aside_in d t n)))

length_asides : (W : List ℕ) (n : ℕ) → length (asides W n) ≡ n
unfolding asides
length_asides W zero = refl
length_asides W (suc n) = length_push (asides W n) _ ∙ omega (arith, length_asides W n)

-- ---- what taking the clip out asks
module _ (d : ℕ) (N : List Node) (F : List ℕ) (t h i number : ℕ) (s : Stands d (rows_of d N h i) N F t h i) (listed : lists number (rows_in (tree_of d N h i)) ≡ true) where
  pub ask_listed : listed_in d N (suc h) number (spot i) ≡ true
  unfolding listed_in
  ask_listed = listed

  pub ask_two : (h ≡ 0 → ⊥) → 2 ≤ length (inside (node N i))
  unfolding entry_of
  ask_two ne = omega (arith, inner h ne s.build.few, length-map (inside (node N i)) (entry_of d N h))
    where
      inner : (g : ℕ) → (g ≡ 0 → ⊥) → {m : ℕ} → fewest g ≤ m → 2 ≤ m
      inner zero e l = absurd (e refl)
      inner (suc g) e l = l

  clips_count : length (clips_in N (suc h) (spot i)) ≡ rows_of d N h i
  clips_count = sym (length-map (clips_in N (suc h) (spot i)) (stored_row d)) ∙ ap length (clips_rows d N (suc h) (spot i))

  pub ask_words : (words : ℕ) → 2 * rows_of d N h i ≤ words → 2 * (0 + length (clips_in N (suc h) (spot i))) ≤ words
  ask_words words l = omega (arith, clips_count)

  pub ask_room : count_in N (suc h) (spot i) ≤ t
  ask_room = omega (arith, used_count N F t h i s.sound s.spread s.high s.stack)

  -- ---- what is left once it is taken out
  module _ (once : Once (rows_in (tree_of d N h i))) (M : List Node) (W V : List ℕ) (m : ℕ) (G : List ℕ) (u g j : ℕ) (r : WithdrawnRoot d N M h i number W V 0 m F G t u g j) where
    none_aside : asides W 0 ≡ []
    unfolding asides
    none_aside = refl

    aside_rows : stored_rows d (asides V m) ≡ aside_in d (tree_of d N h i) number
    unfolding entry_of
    aside_rows = r.aside ∙ ap (λ x. stored_rows d x ++ aside_in d (tree_of d N h i) number) none_aside

    aside_count : m ≡ length (aside_in d (tree_of d N h i) number)
    aside_count = sym (length_asides V m) ∙ sym (length-map (asides V m) (stored_row d)) ∙ ap length aside_rows

    left_tree : tree_of d M g j ≡ left_in d (tree_of d N h i) number
    unfolding entry_of
    left_tree = r.tree

    few : rows_of d M g j + m < rows_of d N h i
    few = omega (arith, left_fewer d (tree_of d N h i) number s.build once listed, ap (λ x. length (rows_in x)) left_tree, aside_count)

    pub left_stands : Stands d (rows_of d M g j + m) M G u g j
    left_stands = record {
      axes = s.axes;
      most = omega (arith, s.most, few);
      room = omega (arith, s.room, r.long, few, half_less (rows_of d M g j + m) (rows_of d N h i) (omega (arith, few)));
      stack = r.free ∙ s.stack ∙ sym r.long;
      sound = r.sound;
      spread = λ k. r.freed k ∙ s.spread k ∙ ap (λ n. cond (ltb k n) 1 0) (sym r.long);
      high = omega (arith, r.low, s.high, r.free);
      build = subst (Build d) (sym left_tree) (left_build d (tree_of d N h i) number s.build once listed);
      rows = omega arith;
    }

    pub ask_order : (words : ℕ) → 2 * rows_of d N h i ≤ words → words ≡ length W → (m < 2 ^ 32) × (2 * m ≤ length V)
    ask_order words l e = (omega (arith, few, s.most), omega (arith, few, r.words))

    -- ---- and the clips set aside entered again
    pub withdrew : (X : List ℕ) (L : List Node) (v b a : ℕ) → InOrder V X m → EnteredAgain d M L G X g j m m v b a → Withdrew d N L F G t h i number v b a
    withdrew X L v b a o e = record {
      long = omega (arith, e.stands.stack, r.free, s.stack);
      tree = e.tree ∙ ap₂ (entered_all d) left_tree (o.rows d (subst Once (sym aside_rows) (aside_once d (tree_of d N h i) number s.build once listed)) ∙ ap rising aside_rows);
      stands = λ c old. record {
        axes = old.axes;
        most = old.most;
        room = omega (arith, old.room, e.stands.stack, r.free, s.stack);
        stack = e.stands.stack;
        sound = e.stands.sound;
        spread = e.stands.spread;
        high = e.stands.high;
        build = e.stands.build;
        rows = omega (arith, e.rows, few, old.rows);
      };
    }
