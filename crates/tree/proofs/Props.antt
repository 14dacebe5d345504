-- What an index keeps has one proof at most, so that it can be taken out of its ghost field.
use Rattle.std.proofs.Common.{◌≡◌, ℕ, zero, suc, ◌≤◌, false, List, [], ◌∷◌, map, length, is_some, refl}
use mathlib.Core.HLevel.{⊥_prop}
use mathlib.Core.Bool.{Bool-set}
use Rattle.space.specs.Plans.{vector_fault}
use mathlib.Core.Logic.{∥∥₁_elim}
use mathlib.Core.List.{is_set}
use native.Mathlib.Bridge.{le_prop}
use native.Mathlib.Nat.{ℕ_set}
use Rattle.std.specs.List.{AllByRecursion}
use Rattle.space.specs.Row.{Row}
use Rattle.space.specs.Boxes.{around}
use Rattle.rules.specs.Tree.{Entry, Tree, sets_of}
use Rattle.rules.specs.Build.{Below, Build}
use Rattle.rules.specs.Finds.{Once}
use Rattle.tree.specs.declared.node.NodeEntry.{NodeEntry}
use Rattle.tree.specs.declared.node.Node.{Node}
use Rattle.tree.specs.Nodes.{node, inside, place_in, Sound}
use Rattle.tree.specs.Standing.{Stands, Whole}

all_prop : {X : Type 0} (P : X → Type 0) → ((x : X) → IsProp (P x)) → (xs : List X) → IsProp (AllByRecursion P xs)
all_prop P f [] p q = refl
all_prop P f (x ∷ xs) p q = λ i. (f x p.0 q.0 i, all_prop P f xs p.1 q.1 i)

sound_prop : (N : List Node) (h : ℕ) (e : NodeEntry) → IsProp (Sound N h e)
unfolding Sound
sound_prop N zero e x y = λ t. λ k. le_prop (x k) (y k) t
sound_prop N (suc h) e x y = λ t. (le_prop x.0 y.0 t, le_prop x.1 y.1 t, le_prop x.2 y.2 t, all_prop (Sound N h) (sound_prop N h) (inside (node N (place_in e))) x.3 y.3 t)

lists_prop : (a b : List ℕ) → IsProp (a ≡ b)
lists_prop a b = is_set ℕ_set a b

below_prop : (d h : ℕ) (es : List (Entry h)) → IsProp (Below d h es)
below_prop d zero es x y = refl
below_prop d (suc h) [] x y = refl
below_prop d (suc h) (b ∷ bs) x y = λ t. (
  le_prop x.0 y.0 t,
  le_prop x.1 y.1 t,
  lists_prop b.sets (around d (map (sets_of h) b.entries)) x.2 y.2 t,
  below_prop d h b.entries x.3 y.3 t,
  below_prop d (suc h) bs x.4 y.4 t,
)

build_prop : (d : ℕ) (t : Tree) → IsProp (Build d t)
build_prop d t x y = λ p. record {
  few = le_prop x.few y.few p;
  many = le_prop x.many y.many p;
  root = lists_prop t.1.sets (around d (map (sets_of t.0) t.1.entries)) x.root y.root p;
  below = below_prop d t.0 t.1.entries x.below y.below p;
}

once_prop : (rows : List Row) → IsProp (Once rows)
once_prop rows x y = λ t. λ i j r h l e. ⊥_prop (x i j r h l e) (y i j r h l e) t

stands_prop : (d c : ℕ) (N : List Node) (F : List ℕ) (t h i : ℕ) → IsProp (Stands d c N F t h i)
stands_prop d c N F t h i x y = λ p. record {
  axes = le_prop x.axes y.axes p;
  most = le_prop x.most y.most p;
  room = le_prop x.room y.room p;
  stack = ℕ_set _ _ x.stack y.stack p;
  sound = sound_prop N (suc h) _ x.sound y.sound p;
  spread = λ k. ℕ_set _ _ (x.spread k) (y.spread k) p;
  high = le_prop x.high y.high p;
  build = build_prop d _ x.build y.build p;
  rows = le_prop x.rows y.rows p;
}

whole_prop : (plan : List ℕ) (c n top : ℕ) (N : List Node) (F : List ℕ) (t h i : ℕ) → IsProp (Whole plan c n top N F t h i)
whole_prop plan c n top N F t h i x y = λ p. record {
  fit = Bool-set _ _ x.fit y.fit p;
  sizes = all_prop (λ s. s ≤ 64) (λ s. le_prop) plan x.sizes y.sizes p;
  stands = stands_prop (length plan) c N F t h i x.stands y.stands p;
  once = once_prop _ x.once y.once p;
  count = ℕ_set _ _ x.count y.count p;
  below = all_prop (λ (r : Row). r.number ≤ top) (λ r. le_prop) _ x.below y.below p;
  proper = all_prop (λ (r : Row). is_some (vector_fault plan r.letters) ≡ false) (λ r. Bool-set _ _) _ x.proper y.proper p;
}

pub whole_out : (plan : List ℕ) (c n top : ℕ) (N : List Node) (F : List ℕ) (t h i : ℕ) → ∥ Whole plan c n top N F t h i ∥₁ → Whole plan c n top N F t h i
whole_out plan c n top N F t h i w = ∥∥₁_elim w (whole_prop plan c n top N F t h i) (λ x. x)
