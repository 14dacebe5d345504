-- What a table of nodes stands for.
use Rattle.std.specs.Prelude.{◌≡◌, ℕ, zero, suc, ◌+◌, ◌<◌, ◌≤◌, Bool, true, cond, List, [], ◌∷◌, map, length, take, replicate, Some, None, Option, ◌==◌, ◌≢◌, slice_index, slice_index_or, slice_set}
use Rattle.std.proofs.Common.{lit≤}
use Rattle.space.specs.Boxes.{around}
use Rattle.std.specs.List.{AllByRecursion}
use Rattle.rules.specs.Choice.{chosen}
use Rattle.rules.specs.Division.{division}
use Rattle.space.specs.Row.{Row}
use Rattle.rules.specs.Tree.{Box, Entry, Tree, sets_of}
use Rattle.rules.specs.Enter.{fitted, enter_below, entered}
use Rattle.space.specs.declared.clip.StoredClip.{StoredClip}
use Rattle.tree.specs.declared.node.NodeEntry.{NodeEntry}
use Rattle.tree.specs.declared.node.NodeEntry.TheVariants as kind
use Rattle.tree.specs.declared.node.Node.{Node}

-- what the checker reads past the end of a table
abbrev pub no_node : Node
no_node = record { sets = []; len = 0; entries = []; few = lit≤ tt }

abbrev pub no_clip : StoredClip
no_clip = record { number = 0; letters = replicate 10 0 }

abbrev pub no_entry : NodeEntry
no_entry = kind.Free

abbrev pub spot : ℕ → NodeEntry
spot i = kind.Place i

-- the clip and the place in an entry; where there is none, some other
abbrev pub clip_in : NodeEntry → StoredClip
clip_in kind.Free = no_clip
clip_in (kind.Clip c) = c
clip_in (kind.Place p) = no_clip

abbrev pub place_in : NodeEntry → ℕ
place_in kind.Free = 0
place_in (kind.Clip c) = 0
place_in (kind.Place p) = p

abbrev pub node : List Node → ℕ → Node
node N i = slice_index_or N i no_node

abbrev pub inside : Node → List NodeEntry
inside n = take n.len n.entries

abbrev pub stored_row : ℕ → StoredClip → Row
stored_row d c = record { number = c.number; letters = take d c.letters }

-- what an entry stands for: at height 0 a clip, above that a box
unfoldable pub entry_of : ℕ → List Node → (h : ℕ) → NodeEntry → Entry h
entry_of d N zero e = stored_row d (clip_in e)
entry_of d N (suc h) e = record { sets = take d (node N (place_in e)).sets; entries = map (entry_of d N h) (inside (node N (place_in e))) }

abbrev pub one : ℕ → ℕ → ℕ
one i k = cond (i == k) 1 0

abbrev pub total : {E : Type 0} → (E → ℕ) → List E → ℕ
total f [] = 0
total f (x ∷ xs) = f x + total f xs

-- how often the node k is met in the tree of an entry
unfoldable pub times : List Node → ℕ → NodeEntry → ℕ → ℕ
times N zero e k = 0
times N (suc h) e k = one (place_in e) k + total (λ x. times N h x k) (inside (node N (place_in e)))

-- how many entries a node of that height has at least
abbrev pub least : ℕ → ℕ
least zero = 0
least (suc h) = 1

abbrev pub Lettered : StoredClip → Type 0
Lettered c = (k : ℕ) → slice_index c.letters k < 64

-- every letter is below 64, every place in the table, and every node has up to eight entries, above the leaves at least one
unfoldable pub Sound : List Node → ℕ → NodeEntry → Type 0
Sound N zero e = Lettered (clip_in e)
Sound N (suc h) e = (place_in e < length N) × (least h ≤ (node N (place_in e)).len) × ((node N (place_in e)).len ≤ 8) × AllByRecursion (Sound N h) (inside (node N (place_in e)))

-- the node i stands in the table, and its entries, of height h, are sound
abbrev pub SoundIn : List Node → ℕ → ℕ → Type 0
SoundIn N h i = (i < length N) × AllByRecursion (Sound N h) (inside (node N i))

-- the division, under a name that `omega` does not unfold
unfoldable pub divided : ℕ → List (List ℕ) → ℕ
divided d bs = division d bs

-- the boxes of some entries
abbrev pub boxes_of : ℕ → List Node → (h : ℕ) → List NodeEntry → List (List ℕ)
boxes_of d N h es = map (λ e. sets_of h (entry_of d N h e)) es

-- the table M is N with the node i made of the entries es of height h
pub record Written (d : ℕ) (N M : List Node) (h i : ℕ) (es : List NodeEntry) : Type 0 where
  pub made : Node
  pub table : M ≡ slice_set N i made
  pub long : made.len ≡ length es
  pub holds : inside made ≡ es
  pub sets : take d made.sets ≡ around d (boxes_of d N h es)

-- the table M is N after the entries es of height h are settled in the node i, and in the node j too where they were divided
pub record Fitted (d : ℕ) (N M : List Node) (h i j : ℕ) (es : List NodeEntry) (r : Bool) : Type 0 where
  pub long : length M ≡ length N
  pub first : entry_of d M (suc h) (spot i) ≡ (fitted d h (map (entry_of d N h) es)).0
  pub second : cond r (Some (entry_of d M (suc h) (spot j))) None ≡ (fitted d h (map (entry_of d N h) es)).1
  pub count : (k : ℕ) → times M (suc h) (spot i) k + cond r (times M (suc h) (spot j) k) 0 ≡ one i k + cond r (one j k) 0 + total (λ e. times N h e k) es
  pub frame : (k : ℕ) → (k ≢ i) → (k ≢ j) → node M k ≡ node N k
  pub sound : Sound M (suc h) (spot i)
  pub other : r ≡ true → Sound M (suc h) (spot j)

-- how often k is among the first n of some places
abbrev pub held : List ℕ → ℕ → ℕ → ℕ
held spare n k = total (λ e. one e k) (take n spare)

-- what the clip, entered below the node i of height h, makes of the tree there
abbrev pub enters : ℕ → List Node → (h : ℕ) → ℕ → StoredClip → Box (Entry h) × Option (Box (Entry h))
enters d N h i clip = enter_below d h (entry_of d N (suc h) (spot i)).entries (stored_row d clip)

-- the table M is N with the clip entered below the node i of height h, where the first u of the spare nodes came into use;
-- the node was divided if u is more than its height, and the second box is then at the spare of that number
pub record EnteredBelow (d : ℕ) (N M : List Node) (spare : List ℕ) (h i : ℕ) (clip : StoredClip) (u : ℕ) : Type 0 where
  pub long : length M ≡ length N
  pub used : u ≤ suc h
  pub first : entry_of d M (suc h) (spot i) ≡ (enters d N h i clip).0
  pub second : cond (u == suc h) (Some (entry_of d M (suc h) (spot (slice_index spare h)))) None ≡ (enters d N h i clip).1
  pub count : (k : ℕ) → times M (suc h) (spot i) k + cond (u == suc h) (times M (suc h) (spot (slice_index spare h)) k) 0 ≡ times N (suc h) (spot i) k + held spare u k
  pub frame : (k : ℕ) → times N (suc h) (spot i) k ≡ 0 → held spare (suc h) k ≡ 0 → node M k ≡ node N k
  pub sound : Sound M (suc h) (spot i)
  pub other : u ≡ suc h → Sound M (suc h) (spot (slice_index spare h))

-- the place of the entry of the node i, of height h above the leaves, that a clip is to go to
unfoldable pub place_of : ℕ → List Node → ℕ → ℕ → StoredClip → ℕ
place_of d N h i clip = chosen (boxes_of d N h (inside (node N i))) (take d clip.letters)

-- the tree of height h at the node i
abbrev pub tree_of : ℕ → List Node → ℕ → ℕ → Tree
tree_of d N h i = (h, entry_of d N (suc h) (spot i))

-- the table M with the root j of height g is N with the root i of height h after the clip was entered, and the first u of the spare nodes came into use
pub record EnteredRoot (d : ℕ) (N M : List Node) (spare : List ℕ) (h i : ℕ) (clip : StoredClip) (g j u : ℕ) : Type 0 where
  pub long : length M ≡ length N
  pub used : u ≤ suc (suc h)
  pub tree : tree_of d M g j ≡ entered d (tree_of d N h i) (stored_row d clip)
  pub count : (k : ℕ) → times M (suc g) (spot j) k ≡ times N (suc h) (spot i) k + held spare u k
  pub sound : Sound M (suc g) (spot j)
