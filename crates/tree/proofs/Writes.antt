-- What a node holds after it is made of some entries.
use Rattle.std.proofs.Common.{◌≡◌, ℕ, suc, ◌+◌, ◌<◌, ◌≤◌, List, map, length, take, sym, ap, ◌∙◌, subst, ap₂, arith, length-set}
use Rattle.std.specs.List.{AllByRecursion}
use Rattle.std.proofs.lemmas.List.{get_or-set_same, get_or-set_other}
use Rattle.space.specs.Boxes.{around}
use Rattle.rules.specs.Tree.{Entry, sets_of, boxed}
use Rattle.tree.specs.declared.node.NodeEntry.{NodeEntry}
use Rattle.tree.specs.declared.node.Node.{Node}
use Rattle.tree.specs.Nodes.{no_node, spot, least, node, inside, entry_of, one, total, times, Sound, Written}
use Rattle.tree.proofs.Lists.{map_map}
use Rattle.tree.proofs.Frame.{Agrees, entries_same, totals_same, sounds_same}

module _ (d : ℕ) (N M : List Node) (h i : ℕ) (es : List NodeEntry) (p : Written d N M h i es) where
  pub put_length : length M ≡ length N
  put_length = ap length p.table ∙ length-set N i p.made

  pub put_other : (k : ℕ) → (k ≡ i → ⊥) → node M k ≡ node N k
  put_other k ne = ap (λ T. node T k) p.table ∙ get_or-set_other N i k p.made no_node ne

  pub put_at : i < length N → node M i ≡ p.made
  put_at l = ap (λ T. node T i) p.table ∙ get_or-set_same N i p.made no_node l

  pub put_agrees : total (λ e. times N h e i) es ≡ 0 → Agrees N M h es
  put_agrees apart k q = put_other k (λ e. let z : total (λ x. times N h x k) es ≡ 0 = subst (λ m. total (λ x. times N h x m) es ≡ 0) (sym e) apart in omega arith)

  pub put_entry : i < length N → total (λ e. times N h e i) es ≡ 0 → entry_of d M (suc h) (spot i) ≡ boxed d h (map (entry_of d N h) es)
  unfolding entry_of
  put_entry l apart =
      let s = entries_same N M d h es (put_agrees apart) in
      let e = put_at l in
      let b = p.sets ∙ ap (around d) (sym (map_map (sets_of h) (entry_of d N h) es)) in
      let m : map (entry_of d M h) (inside (node M i)) ≡ map (entry_of d N h) es = ap (λ n. map (entry_of d M h) (inside n)) e ∙ ap (map (entry_of d M h)) p.holds ∙ s in
      let a : take d (node M i).sets ≡ around d (map (sets_of h) (map (entry_of d N h) es)) = ap (λ n. take d n.sets) e ∙ b in
      ap₂ (λ (x : List ℕ) (y : List (Entry h)). record { sets = x; entries = y }) a m

  pub put_times : i < length N → total (λ e. times N h e i) es ≡ 0 → (k : ℕ) → times M (suc h) (spot i) k ≡ one i k + total (λ e. times N h e k) es
  unfolding times
  put_times l apart k =
      let s = totals_same N M h es (put_agrees apart) k in
      let w : inside (node M i) ≡ es = ap inside (put_at l) ∙ p.holds in
      rw w (omega arith)

  pub put_sound : i < length N → least h ≤ length es → length es ≤ 8 → total (λ e. times N h e i) es ≡ 0 → AllByRecursion (Sound N h) es → Sound M (suc h) (spot i)
  unfolding Sound
  put_sound l some few apart s =
      let n : (node M i).len ≡ length es = ap (λ n. n.len) (put_at l) ∙ p.long in
      let w : inside (node M i) ≡ es = ap inside (put_at l) ∙ p.holds in
      (omega (arith, put_length), omega arith, omega arith, rw w (sounds_same N M put_length h es (put_agrees apart) s))
