-- Lists in rank: where an entry goes, and what the ranking of a list is.
use Rattle.std.specs.Prelude.{◌≡◌, ℕ, suc, Bool, true, false, cond, List, [], ◌∷◌, take}
use Rattle.std.specs.List.{AllByRecursion}

-- A test of standing before is an order: of two at most one stands before the other, and where x does not stand before y nor y before z, x does
-- not stand before z.
pub record Order {X : Type 0} (before : X → X → Bool) : Type 0 where
  pub one_way : (x y : X) → before x y ≡ true → before y x ≡ false
  pub chain : (x y z : X) → before x y ≡ false → before y z ≡ false → before x z ≡ false

-- two of which neither stands before the other are one value
abbrev pub Tie : {X : Type 0} → (X → X → Bool) → Type 0
Tie {X} before = (x y : X) → before x y ≡ false → before y x ≡ false → x ≡ y

-- one entry more: right before the first element that it stands before, or else at the end
abbrev pub place : {X : Type 0} → (X → X → Bool) → X → List X → List X
place before e [] = e ∷ []
place before e (x ∷ xs) = cond (before e x) (e ∷ x ∷ xs) (x ∷ place before e xs)

-- how many elements stand to the left of that place
abbrev pub rank_of : {X : Type 0} → (X → X → Bool) → X → List X → ℕ
rank_of before e [] = 0
rank_of before e (x ∷ xs) = cond (before e x) 0 (suc (rank_of before e xs))

-- the ranking of a list: each of its elements, at its place among the others
abbrev pub ranked : {X : Type 0} → (X → X → Bool) → List X → List X
ranked before [] = []
ranked before (x ∷ xs) = place before x (ranked before xs)

-- in rank: no element stands before one to its left
abbrev pub InRank : {X : Type 0} → (X → X → Bool) → List X → Type 0
InRank before [] = Unit {0}
InRank before (x ∷ xs) = AllByRecursion (λ y. before y x ≡ false) xs × InRank before xs

-- entries that come one after another into a list that keeps its first cap elements each time
abbrev pub keep_first : {X : Type 0} → (X → X → Bool) → ℕ → List X → List X → List X
keep_first before cap kept [] = kept
keep_first before cap kept (x ∷ xs) = keep_first before cap (take cap (place before x kept)) xs
