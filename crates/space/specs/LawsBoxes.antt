-- What holds of boxes, in the words of the rules.
use Rattle.std.specs.Prelude.{◌≡◌, ℕ, ◌^◌, ◌<◌, ◌≤◌, Bool, true, false, ◌||◌, List, [], ◌∷◌, length, slice_index, slice_index_or}
use Rattle.std.specs.List.{AllByRecursion}
use Rattle.space.specs.Boxes.{has, in_box, small, words, area, common, meet, point, around}

-- in each dimension that both boxes have, the third has exactly the letters of the one or the other
abbrev pub BothLetters : List ℕ → List ℕ → List ℕ → Type 0
BothLetters a b c = (i l : ℕ) → i < length a → i < length b → has (slice_index c i) l ≡ (has (slice_index a i) l || has (slice_index b i) l)

-- the letter l occurs in dimension i (from 0) of one of the boxes
abbrev pub occurs : ℕ → ℕ → List (List ℕ) → Bool
occurs i l [] = false
occurs i l (b ∷ bs) = has (slice_index b i) l || occurs i l bs

-- The smallest box around boxes of d dimensions has d dimensions, and in each exactly the letters that occur in one of the boxes.
abbrev pub AroundExact : Type 0
AroundExact = (d : ℕ) (bs : List (List ℕ)) → AllByRecursion (λ b. length b ≡ d) bs
    → (length (around d bs) ≡ d) × ((i l : ℕ) → i < d → has (slice_index (around d bs) i) l ≡ occurs i l bs)

-- a vector in one of the boxes is in the smallest box around them
abbrev pub InAround : Type 0
InAround = (d : ℕ) (bs : List (List ℕ)) (v : List ℕ) (k : ℕ) → AllByRecursion (λ b. length b ≡ d) bs → k < length bs
    → in_box v (slice_index_or bs k []) ≡ true → in_box v (around d bs) ≡ true

-- a vector is in its own box
abbrev pub InPoint : Type 0
InPoint = (v : List ℕ) → small v ≡ true → in_box v (point v) ≡ true

-- The common area is the area of the box of the common letters, and no area of d sets is above 64 ^ d.
abbrev pub Areas : Type 0
Areas = ((a b : List ℕ) → length a ≡ length b → common a b ≡ area (meet a b))
    × ((b : List ℕ) → words b ≡ true → area b ≤ 64 ^ length b)
