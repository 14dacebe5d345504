-- What a withdrawal does to a table of nodes, a worklist of words and a stack of free places.
use Rattle.std.specs.Prelude.{◌≡◌, ℕ, zero, suc, ◌+◌, ◌*◌, ◌/◌, ◌%◌, ◌^◌, ◌<◌, ◌≤◌, Bool, cond, List, [], ◌∷◌, ◌++◌, map, length, take, drop, ◌==◌, ◌≢◌, nat_lt, slice_index}
use Rattle.std.specs.List.{flat_map, AllByRecursion}
use Rattle.space.specs.Row.{Row}
use Rattle.rules.specs.Tree.{Entry, boxed, rows_below}
use Rattle.rules.specs.Rows.{lists, rising}
use Rattle.rules.specs.Finds.{Once}
use Rattle.rules.specs.Withdraw.{withdraw_below, settled}
use Rattle.space.specs.declared.clip.StoredClip.{StoredClip}
use Rattle.tree.specs.declared.node.NodeEntry.{NodeEntry}
use Rattle.tree.specs.declared.node.Node.{Node}
use Rattle.tree.specs.Nodes.{node, inside, spot, clip_in, place_in, entry_of, one, total, times, Sound, Lettered, tree_of}
use Rattle.space.specs.Row.{stored_row, stored_rows}
use Rattle.rules.specs.Enter.{entered}

-- ---- the worklist: the numbers of the clips set aside in its first half, their letters in its second, six bits each
abbrev pub letters_of : ℕ → ℕ → List ℕ
letters_of zero w = []
letters_of (suc d) w = w % 64 ∷ letters_of d (w / 64)

unfoldable pub clip_at : List ℕ → ℕ → StoredClip
clip_at ws n = record { number = slice_index ws n % 2 ^ 32; letters = letters_of 10 (slice_index ws (length ws / 2 + n)) }

-- the first n clips of a worklist
unfoldable pub asides : List ℕ → ℕ → List StoredClip
asides ws zero = []
asides ws (suc n) = asides ws n ++ clip_at ws n ∷ []

-- Once they are to be put in order, a word of the first half is a key: a clip's number, and in the lower 32 bits where its letters are.
unfoldable pub clip_by : List ℕ → ℕ → StoredClip
clip_by ws key = record { number = key / 2 ^ 32; letters = letters_of 10 (slice_index ws (length ws / 2 + key % 2 ^ 32)) }

-- the clips of the first n keys
abbrev pub keyed : List ℕ → ℕ → List StoredClip
keyed ws n = map (clip_by ws) (take n ws)

-- the worklist W, with n clips set aside, has become V, whose keys give their rows in rising number, if no number stands twice
pub record InOrder (W V : List ℕ) (n : ℕ) : Type 0 where
  pub long : length V ≡ length W
  pub rows : (d : ℕ) → Once (stored_rows d (asides W n)) → stored_rows d (keyed V n) ≡ rising (stored_rows d (asides W n))

-- ---- the clips and the nodes in the tree of an entry
unfoldable pub clips_in : List Node → ℕ → NodeEntry → List StoredClip
clips_in N zero e = clip_in e ∷ []
clips_in N (suc h) e = flat_map (clips_in N h) (inside (node N (place_in e)))

unfoldable pub count_in : List Node → ℕ → NodeEntry → ℕ
count_in N zero e = 0
count_in N (suc h) e = 1 + total (count_in N h) (inside (node N (place_in e)))

-- `Sound`, but for how many entries a node has at least
unfoldable pub Within : List Node → ℕ → NodeEntry → Type 0
Within N zero e = Lettered (clip_in e)
Within N (suc h) e = (place_in e < length N) × ((node N (place_in e)).len ≤ 8) × AllByRecursion (Within N h) (inside (node N (place_in e)))

-- The stack of free places grows down: they are those from the place t on. How often k is among them.
abbrev pub stock : List ℕ → ℕ → ℕ → ℕ
stock F t k = total (λ e. one e k) (drop t F)

-- the tree of an entry moved out: its clips to the worklist W, which becomes V, its nodes to the stack F, which becomes G
pub record SetAside (N : List Node) (h : ℕ) (e : NodeEntry) (W V : List ℕ) (n m : ℕ) (F G : List ℕ) (t u : ℕ) : Type 0 where
  pub aside : asides V m ≡ asides W n ++ clips_in N h e
  pub more : m ≡ n + length (clips_in N h e)
  pub words : length V ≡ length W
  pub freed : (k : ℕ) → stock G u k ≡ stock F t k + times N h e k
  pub top : u + count_in N h e ≡ t
  pub free : length G ≡ length F

-- there is room for the tree of an entry to be moved out: in as many words, of which n clips are set aside already, and below the place t of the stack
abbrev pub RoomFor : List Node → ℕ → NodeEntry → ℕ → ℕ → ℕ → Type 0
RoomFor N h e words n t = (2 * (n + length (clips_in N h e)) ≤ words) × (count_in N h e ≤ t)

-- ---- a clip taken out
abbrev pub rows_of : (h : ℕ) → Entry h → List Row
rows_of zero r = r ∷ []
rows_of (suc h) b = rows_below h b.entries

-- the number is among the clips of an entry
unfoldable pub listed_in : ℕ → List Node → ℕ → ℕ → NodeEntry → Bool
listed_in d N h n e = lists n (rows_of h (entry_of d N h e))

-- the place of the first entry that passes a test
abbrev pub first_index : (NodeEntry → Bool) → List NodeEntry → ℕ
first_index p [] = 0
first_index p (e ∷ es) = cond (p e) 0 (suc (first_index p es))

-- the entries of a leaf but those of that number
abbrev pub kept : ℕ → List NodeEntry → List NodeEntry
kept n [] = []
kept n (e ∷ es) = cond ((clip_in e).number == n) (kept n es) (e ∷ kept n es)

-- what the number, withdrawn below the node i of height h, leaves there and sets aside
abbrev pub out_of : ℕ → List Node → (h : ℕ) → ℕ → ℕ → List (Entry h) × List Row
out_of d N h i number = withdraw_below d h (entry_of d N (suc h) (spot i)).entries number

-- The table M is N with the number withdrawn below the node i of height h. The worklist W with n clips became V with m, and the stack F from t on G from u on.
pub record WithdrawnBelow (d : ℕ) (N M : List Node) (h i number : ℕ) (W V : List ℕ) (n m : ℕ) (F G : List ℕ) (t u : ℕ) : Type 0 where
  pub long : length M ≡ length N
  pub box : entry_of d M (suc h) (spot i) ≡ boxed d h (out_of d N h i number).0
  pub aside : map (stored_row d) (asides V m) ≡ map (stored_row d) (asides W n) ++ (out_of d N h i number).1
  pub words : length V ≡ length W
  pub clips : m + length (clips_in M (suc h) (spot i)) ≤ n + length (clips_in N (suc h) (spot i))
  pub freed : (k : ℕ) → times M (suc h) (spot i) k + stock G u k ≡ times N (suc h) (spot i) k + stock F t k
  pub boxes : count_in M (suc h) (spot i) + t ≡ count_in N (suc h) (spot i) + u
  pub free : length G ≡ length F
  pub low : u ≤ t
  pub frame : (k : ℕ) → times N (suc h) (spot i) k ≡ 0 → node M k ≡ node N k
  pub fewer : (k : ℕ) → times M (suc h) (spot i) k ≤ times N (suc h) (spot i) k
  pub least : (h ≢ 0) → length (inside (node N i)) ≤ suc (node M i).len
  pub few : (node M i).len ≤ 8
  pub full : length (inside (node M i)) ≡ (node M i).len
  pub sound : AllByRecursion (Sound M h) (inside (node M i))

-- The same at a root i of height h, which gives way where it is left with one entry: the root after is j, of height g.
pub record WithdrawnRoot (d : ℕ) (N M : List Node) (h i number : ℕ) (W V : List ℕ) (n m : ℕ) (F G : List ℕ) (t u g j : ℕ) : Type 0 where
  pub long : length M ≡ length N
  pub tree : tree_of d M g j ≡ settled d h (out_of d N h i number).0
  pub aside : map (stored_row d) (asides V m) ≡ map (stored_row d) (asides W n) ++ (out_of d N h i number).1
  pub words : length V ≡ length W
  pub freed : (k : ℕ) → times M (suc g) (spot j) k + stock G u k ≡ times N (suc h) (spot i) k + stock F t k
  pub boxes : count_in M (suc g) (spot j) + t ≡ count_in N (suc h) (spot i) + u
  pub free : length G ≡ length F
  pub low : u ≤ t
  pub sound : Sound M (suc g) (spot j)

-- ---- a clip entered, with the stack of free places
-- every node is met once in the tree of height h at i, or stands once among the free places from t on
abbrev pub EachOnce : List Node → List ℕ → ℕ → ℕ → ℕ → Type 0
EachOnce N F t h i = (k : ℕ) → times N (suc h) (spot i) k + stock F t k ≡ cond (nat_lt k (length N)) 1 0

-- the table M, whose free places begin at u, with the root j of height g is N, whose free places begin at t, with the root i of height h after the clip was entered
pub record EnteredClip (d : ℕ) (N M : List Node) (F : List ℕ) (t h i : ℕ) (clip : StoredClip) (u g j : ℕ) : Type 0 where
  pub long : length M ≡ length N
  pub tree : tree_of d M g j ≡ entered d (tree_of d N h i) (stored_row d clip)
  pub spread : EachOnce M F u g j
  pub low : t ≤ u
  pub high : u ≤ length F
  pub sound : Sound M (suc g) (spot j)
