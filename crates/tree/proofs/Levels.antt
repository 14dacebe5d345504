-- What an entry means, by its height.
use Rattle.std.proofs.Common.{◌≡◌, ℕ, zero, suc, ◌<◌, List, length, take, refl, arith}
use Rattle.space.specs.Boxes.{point}
use Rattle.rules.specs.Tree.{sets_of}
use Rattle.tree.specs.declared.node.NodeEntry.{NodeEntry}
use Rattle.tree.specs.declared.node.Node.{Node}
use Rattle.tree.specs.Nodes.{node, clip_in, place_in, entry_of, Sound}

module _ (d : ℕ) (N : List Node) where
  pub leaf_sets : (h : ℕ) (e : NodeEntry) → h ≡ 0 → sets_of h (entry_of d N h e) ≡ point (take d (clip_in e).letters)
  unfolding entry_of
  leaf_sets zero e p = refl
  leaf_sets (suc h) e p = absurd (omega arith)

  pub node_sets : (h : ℕ) (e : NodeEntry) → (h ≡ 0 → ⊥) → sets_of h (entry_of d N h e) ≡ take d (node N (place_in e)).sets
  unfolding entry_of
  node_sets zero e p = absurd (p refl)
  node_sets (suc h) e p = refl

pub node_sound : (N : List Node) (h : ℕ) (e : NodeEntry) → (h ≡ 0 → ⊥) → Sound N h e → place_in e < length N
unfolding Sound
node_sound N zero e p s = absurd (p refl)
node_sound N (suc h) e p s = s.0
