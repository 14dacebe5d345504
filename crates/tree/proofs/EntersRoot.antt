-- A clip entered at the root.
use Rattle.std.proofs.Common.{◌≡◌, ℕ, suc, ◌+◌, ◌<◌, ◌≤◌, true, cond, eqb, List, [], ◌∷◌, length, get_or, Some, None, sym, ap, ◌∙◌, ap₂, arith}
use Rattle.std.specs.List.{AllByRecursion}
use Rattle.std.proofs.lemmas.Bool.{eq-eqb}
use Rattle.rules.specs.Tree.{Box, Entry, Tree}
use Rattle.rules.specs.Enter.{rooted}
use Rattle.space.specs.declared.clip.StoredClip.{StoredClip}
use Rattle.tree.specs.declared.node.Node.{Node}
use Rattle.tree.specs.Nodes.{spot, entry_of, total, times, Sound, Written, held, EnteredBelow, EnteredRoot}
use Rattle.tree.proofs.Frame.{one_self}
use Rattle.tree.proofs.Writes.{put_length, put_entry, put_times, put_sound}
use Rattle.tree.proofs.Siblings.{held_more}

module _ (d : ℕ) (N M : List Node) (spare : List ℕ) (h i : ℕ) (clip : StoredClip) (u : ℕ) (gr : EnteredBelow d N M spare h i clip u) where
  module _ (all : u ≡ suc h) (room : suc h < length spare) (in-N : get_or spare (suc h) 0 < length N)
      (apart : (k : ℕ) → times N (suc h) (spot i) k + held spare (suc (suc h)) k ≤ 1) where
    divided : eqb u (suc h) ≡ true
    divided = eq-eqb u (suc h) all

    both : (k : ℕ) → times M (suc h) (spot i) k + times M (suc h) (spot (get_or spare h 0)) k ≡ times N (suc h) (spot i) k + held spare (suc h) k
    both k = omega (arith, gr.count k, ap (λ b. cond b (times M (suc h) (spot (get_or spare h 0)) k) 0) divided, ap (λ m. held spare m k) all)

    pub pair_sound : AllByRecursion (Sound M (suc h)) (spot i ∷ spot (get_or spare h 0) ∷ [])
    pair_sound = (gr.sound, (gr.other all, tt))

    free : total (λ e. times M (suc h) e (get_or spare (suc h) 0)) (spot i ∷ spot (get_or spare h 0) ∷ []) ≡ 0
    free = omega (arith, both (get_or spare (suc h) 0), apart (get_or spare (suc h) 0), held_more spare (suc h) (get_or spare (suc h) 0) room, one_self (get_or spare (suc h) 0))

    in_m : get_or spare (suc h) 0 < length M
    in_m = omega (arith, gr.long)

    pub rose_two : (L : List Node) → Written d M L (suc h) (get_or spare (suc h) 0) (spot i ∷ spot (get_or spare h 0) ∷ []) → EnteredRoot d N L spare h i clip (suc h) (get_or spare (suc h) 0) (suc (suc h))
    rose_two L p =
        let tree-of : Box (Entry (suc h)) → Tree = λ x. (suc h, x) in
        let q = put_entry d M L (suc h) (get_or spare (suc h) 0) (spot i ∷ spot (get_or spare h 0) ∷ []) p in_m free in
        record {
          long = put_length d M L (suc h) (get_or spare (suc h) 0) (spot i ∷ spot (get_or spare h 0) ∷ []) p ∙ gr.long;
          used = omega arith;
          tree = ap tree-of q
              ∙ ap₂ (rooted d h) gr.first (ap (λ b. cond b (Some (entry_of d M (suc h) (spot (get_or spare h 0)))) None) (sym divided) ∙ gr.second);
          count = λ k. omega (arith, put_times d M L (suc h) (get_or spare (suc h) 0) (spot i ∷ spot (get_or spare h 0) ∷ []) p in_m free k, both k, held_more spare (suc h) k room);
          sound = put_sound d M L (suc h) (get_or spare (suc h) 0) (spot i ∷ spot (get_or spare h 0) ∷ []) p in_m (omega arith) (omega arith) free pair_sound;
        }
