-- A tree in its table, when clips are entered.
use Rattle.std.proofs.Common.{◌≡◌, ℕ, zero, suc, ◌+◌, ◌/◌, ◌%◌, ◌^◌, ◌<◌, ◌≤◌, List, [], ◌∷◌, ◌++◌, map, length, get_or, take, sym, refl, ap, ◌∙◌, subst, ap₂, arith}
use Rattle.std.proofs.lemmas.List.{map_push, take_more}
use Rattle.space.specs.Row.{Row, stored_row, stored_rows}
use Rattle.space.specs.declared.clip.StoredClip.{StoredClip}
use Rattle.ranked.proofs.Sames.{length_same}
use Rattle.rules.specs.Tree.{Tree, rows_in}
use Rattle.rules.specs.Build.{Build}
use Rattle.rules.specs.Enter.{entered, entered_all}
use Rattle.rules.proofs.Builds.{entered_build}
use Rattle.rules.proofs.Rows.{entered_rows}
use Rattle.tree.specs.declared.node.Node.{Node}
use Rattle.tree.specs.Nodes.{Lettered, tree_of}
use Rattle.tree.specs.Leaving.{letters_of, clip_by, keyed, EnteredClip}
use Rattle.tree.specs.Standing.{Stands, rows_of, EnteredAgain}
use Rattle.tree.proofs.Tallies.{used_boxes, room_left}

-- ---- one clip
pub stands_used : (d c : ℕ) (N : List Node) (F : List ℕ) (t h i : ℕ) → Stands d c N F t h i → t + h + 2 ≤ length F
stands_used d c N F t h i s =
    let e = used_boxes d N F t h i s.sound s.spread s.high s.stack in
    let r = room_left d c (tree_of d N h i) t (length N) s.build e s.rows s.most s.room in
    omega (arith, s.stack)

entered_count : (d : ℕ) (t : Tree) (r : Row) → Build d t → length (rows_in (entered d t r)) ≡ suc (length (rows_in t))
entered_count d t r b = sym (length_same (entered_rows d t r b))

pub entered_more : (d c : ℕ) (N M : List Node) (F : List ℕ) (t h i : ℕ) (clip : StoredClip) (u g j : ℕ) → Stands d c N F t h i → EnteredClip d N M F t h i clip u g j
    → rows_of d M g j ≡ suc (rows_of d N h i)
entered_more d c N M F t h i clip u g j s p = ap (λ x. length (rows_in x)) p.tree ∙ entered_count d (tree_of d N h i) (stored_row d clip) s.build

pub stands_entered : (d c : ℕ) (N M : List Node) (F : List ℕ) (t h i : ℕ) (clip : StoredClip) (u g j : ℕ) → Stands d c N F t h i → EnteredClip d N M F t h i clip u g j
    → rows_of d N h i < c → Stands d c M F u g j
stands_entered d c N M F t h i clip u g j s p l = record {
  axes = s.axes;
  most = s.most;
  room = omega (arith, s.room, p.long);
  stack = s.stack ∙ sym p.long;
  sound = p.sound;
  spread = p.spread;
  high = p.high;
  build = subst (Build d) (sym p.tree) (entered_build d (tree_of d N h i) (stored_row d clip) s.build);
  rows = omega (arith, entered_more d c N M F t h i clip u g j s p);
}

-- ---- the clips of the keys of a worklist
letters_small : (n w k : ℕ) → get_or (letters_of n w) k 0 < 64
letters_small zero w k = omega arith
letters_small (suc n) w zero = omega arith
letters_small (suc n) w (suc k) = letters_small n (w / 64) k

-- any word stands for letters below 64
pub by_lettered : (W : List ℕ) (key : ℕ) (c : StoredClip) → c ≡ clip_by W key → Lettered c
unfolding clip_by
by_lettered W key c is = let low : Lettered (clip_by W key) = λ k. letters_small 10 (get_or W (length W / 2 + key % 2 ^ 32) 0) k in subst Lettered (sym is) low

pub entered_push : (d : ℕ) (t : Tree) (xs : List Row) (r : Row) → entered_all d t (xs ++ r ∷ []) ≡ entered d (entered_all d t xs) r
entered_push d t [] r = refl
entered_push d t (x ∷ xs) r = entered_push d (entered d t x) xs r

keyed_more : (d : ℕ) (W : List ℕ) (k : ℕ) → k < length W → stored_rows d (keyed W (k + 1)) ≡ stored_rows d (keyed W k) ++ stored_row d (clip_by W (get_or W k 0)) ∷ []
keyed_more d W k l =
    ap (λ x. stored_rows d (map (clip_by W) x)) (take_more W k 0 l) ∙ ap (stored_rows d) (map_push (clip_by W) (take k W) (get_or W k 0))
    ∙ map_push (stored_row d) (keyed W k) (clip_by W (get_or W k 0))

module _ (d : ℕ) (N : List Node) (F W : List ℕ) (h i n : ℕ) where
  pub again_step : (M L : List Node) (k u g j v b a : ℕ) (c : StoredClip) → k < n → k < length W → EnteredAgain d N M F W h i n k u g j → c ≡ clip_by W (get_or W k 0)
      → EnteredClip d M L F u g j c v b a → EnteredAgain d N L F W h i n (k + 1) v b a
  again_step M L k u g j v b a c l m w is p =
      let more = entered_more d (rows_of d N h i + n) M L F u g j c v b a w.stands p in
      record {
        tree = p.tree ∙ ap₂ (λ x (y : StoredClip). entered d x (stored_row d y)) w.tree is
            ∙ sym (entered_push d (tree_of d N h i) (stored_rows d (keyed W k)) (stored_row d (clip_by W (get_or W k 0))))
            ∙ ap (entered_all d (tree_of d N h i)) (sym (keyed_more d W k m));
        rows = omega (arith, more, w.rows);
        stands = stands_entered d (rows_of d N h i + n) M L F u g j c v b a w.stands p (omega (arith, w.rows));
      }
