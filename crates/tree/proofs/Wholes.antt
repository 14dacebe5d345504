-- What an index keeps, read from its fields.
use Rattle.std.proofs.Common.{◌≡◌, ℕ, suc, ◌+◌, ◌-◌, ◌*◌, ◌≤◌, true, List, length, take, sym, ap, subst, arith}
use Rattle.std.proofs.lemmas.List.{length-take-le}
use Rattle.space.specs.declared.clip.StoredClip.{StoredClip}
use Rattle.rules.specs.Tree.{Tree, rows_in}
use Rattle.rules.specs.Rows.{lists}
use Rattle.rules.specs.Finds.{Once}
use Rattle.rules.proofs.Sizes.{low_tree}
use Rattle.tree.specs.declared.node.Node.{Node}
use Rattle.tree.specs.declared.free.FreePlaces.{FreePlaces}
use Rattle.tree.specs.declared.index.Index.{Index}
use Rattle.tree.specs.declared.nodes.Nodes.{Nodes}
use Rattle.tree.specs.declared.nodes.Subtree.{Subtree}
use Rattle.tree.specs.Nodes.{spot, Sound, tree_of}
use Rattle.tree.specs.Leaving.{EachOnce, EnteredClip}
use Rattle.tree.specs.Standing.{Stands, rows_of, Withdrew, Whole}
use Rattle.tree.specs.Seen.{plan_of, tree_in}
use Rattle.tree.proofs.Props.{whole_out}
use Rattle.tree.proofs.Standings.{stands_used}
use Rattle.tree.proofs.Tallies.{half_less}
use Rattle.tree.proofs.Changes.{whole_left}

pub whole_of : (x : Index) → Whole (plan_of x) x.capacity x.clips x.highest x.nodes.places.items x.free.places.items x.free.used x.root.height x.root.place
whole_of x = whole_out (plan_of x) x.capacity x.clips x.highest x.nodes.places.items x.free.places.items x.free.used x.root.height x.root.place x.whole

pub low : (x : Index) → x.root.height ≤ 6
low x =
    let s = (whole_of x).stands in
    (low_tree (length (plan_of x)) (tree_in x) s.build).1 (omega (arith, s.rows, s.most))

pub few : (x : Index) → x.clips ≤ 4096
few x = let w = whole_of x in omega (arith, w.count, w.stands.rows, w.stands.most)

pub dimensions_are : (x : Index) → length (plan_of x) ≡ x.nodes.dims
dimensions_are x = length-take-le x.nodes.dims x.sizes (omega (arith, x.nodes.axes, x.long))

-- ---- what a call asks, and what it leaves
module _ (x : Index) where
  abbrev N : List Node
  N = x.nodes.places.items

  abbrev F : List ℕ
  F = x.free.places.items

  pub ask_enter : Sound N (suc x.root.height) (spot x.root.place) × EachOnce N F x.free.used x.root.height x.root.place × (x.free.used + x.root.height + 2 ≤ length F)
  ask_enter = let s = (whole_of x).stands in (s.sound, s.spread, stands_used (length (plan_of x)) x.capacity N F x.free.used x.root.height x.root.place s)

  pub enter_done : (M : List Node) (clip : StoredClip) (u g j : ℕ) → EnteredClip x.nodes.dims N M F x.free.used x.root.height x.root.place clip u g j
      → EnteredClip (length (plan_of x)) N M F x.free.used x.root.height x.root.place clip u g j
  enter_done M clip u g j p = subst (λ n. EnteredClip n N M F x.free.used x.root.height x.root.place clip u g j) (sym (dimensions_are x)) p

  pub ask_withdraw : Stands x.nodes.dims (rows_of x.nodes.dims N x.root.height x.root.place) N F x.free.used x.root.height x.root.place
  ask_withdraw =
      let s = (whole_of x).stands in
      subst (λ n. Stands n (rows_of n N x.root.height x.root.place) N F x.free.used x.root.height x.root.place) (dimensions_are x)
      (record {
        axes = s.axes;
        most = omega (arith, s.most, s.rows);
        room = omega (arith, s.room, half_less (rows_of (length (plan_of x)) N x.root.height x.root.place) x.capacity s.rows);
        stack = s.stack;
        sound = s.sound;
        spread = s.spread;
        high = s.high;
        build = s.build;
        rows = omega arith;
      })

  pub ask_rows : (number words : ℕ) → lists number (rows_in (tree_in x)) ≡ true → 2 * length (rows_in (tree_in x)) ≤ words
      → let t = tree_of x.nodes.dims N x.root.height x.root.place in Once (rows_in t) × (lists number (rows_in t) ≡ true) × (2 * length (rows_in t) ≤ words)
  ask_rows number words listed l =
      let P : Tree → Type 0 = λ t. Once (rows_in t) × (lists number (rows_in t) ≡ true) × (2 * length (rows_in t) ≤ words) in
      subst (λ n. P (tree_of n N x.root.height x.root.place)) (dimensions_are x) ((whole_of x).once, listed, l)

  module _ (M : List Node) (G : List ℕ) (number u g j : ℕ) (p : Withdrew x.nodes.dims N M F G x.free.used x.root.height x.root.place number u g j) where
    pub withdraw_done : Withdrew (length (plan_of x)) N M F G x.free.used x.root.height x.root.place number u g j
    withdraw_done = subst (λ n. Withdrew n N M F G x.free.used x.root.height x.root.place number u g j) (sym (dimensions_are x)) p

    -- what the index keeps after it
    pub left_whole : lists number (rows_in (tree_in x)) ≡ true → Whole (plan_of x) x.capacity (x.clips - 1) x.highest M G u g j
    left_whole listed = whole_left (plan_of x) x.capacity x.clips x.highest N M F G x.free.used x.root.height x.root.place number u g j (whole_of x) withdraw_done listed

-- ---- the index with other boxes, of as many dimensions and places
module _ (x : Index) (M : Nodes) (dims : M.dims ≡ x.nodes.dims) where
  pub same_plan : take M.dims x.sizes ≡ plan_of x
  same_plan = ap (λ d. take d x.sizes) dims

  pub same_whole : (G : FreePlaces) (clips top : ℕ) (r : Subtree) → Whole (plan_of x) x.capacity clips top M.places.items G.places.items G.used r.height r.place
      → Whole (take M.dims x.sizes) x.capacity clips top M.places.items G.places.items G.used r.height r.place
  same_whole G clips top r w = subst (λ v. Whole v x.capacity clips top M.places.items G.places.items G.used r.height r.place) (sym same_plan) w
