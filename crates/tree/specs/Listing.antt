-- The clips of a tree written to a list.
use Rattle.std.specs.Prelude.{◌≡◌, ℕ, List, length, take, drop, Option, MatchOption, nat_le}
use Rattle.space.specs.Boxes.{given}
use Rattle.space.specs.Row.{Row, stored_rows}
use Rattle.space.specs.declared.clip.StoredClip.{StoredClip}
use Rattle.rules.specs.Tree.{rows_in}
use Rattle.tree.specs.declared.index.Index.{Index}
use Rattle.tree.specs.declared.node.NodeEntry.{NodeEntry}
use Rattle.tree.specs.declared.node.Node.{Node}
use Rattle.tree.specs.Leaving.{clips_in}
use Rattle.tree.specs.Seen.{plan_of, tree_in}

-- the list A has become B: its first m clips are those of the tree of an entry, all of them, and the others are as they were
pub record Copied (N : List Node) (h : ℕ) (e : NodeEntry) (A B : List StoredClip) (m : ℕ) : Type 0 where
  pub front : take m B ≡ clips_in N h e
  pub more : m ≡ length (clips_in N h e)
  pub long : length B ≡ length A
  pub rest : drop m B ≡ drop m A

-- the first n clips of B are those rows, of d dimensions, and the others are as in A
pub record Front (d : ℕ) (rows : List Row) (A B : List StoredClip) (n : ℕ) : Type 0 where
  pub clips : stored_rows d (take n B) ≡ rows
  pub rest : drop n B ≡ drop n A

-- the rows, of which there are as many as the index lists, written to the front of A, which becomes B; where A has not room for all, nothing is
pub record Listed (x : Index) (rows : List Row) (A B : List StoredClip) (r : Option ℕ) : Type 0 where
  pub count : r ≡ given (nat_le (length (rows_in (tree_in x))) (length A)) (length (rows_in (tree_in x)))
  pub front : MatchOption r (B ≡ A) (Front (length (plan_of x)) rows A B)
