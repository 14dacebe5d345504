-- Letters, sets, vectors, boxes, areas and common areas.
-- A set of letters is a number: the letter l is in it where its binary digit l is set; a set that a program holds is below 2 ^ 64.
-- A vector is a list of letters, and a box a list of sets, one for each dimension.
use Rattle.std.specs.Prelude.{ℕ, ◌*◌, ◌/◌, ◌%◌, ◌^◌, Bool, true, false, cond, ◌&&◌, List, [], ◌∷◌, ◌++◌, map, length, take, drop, replicate, Some, None, Option, ◌==◌, bit_and, bit_or, count_ones, nat_le, nat_lt}

-- the letter l is in the set m
abbrev pub has : ℕ → ℕ → Bool
has m l = m / 2 ^ l % 2 == 1

-- the vector is in the box: as many letters as sets, each letter in its set
abbrev pub in_box : List ℕ → List ℕ → Bool
in_box [] [] = true
in_box [] (m ∷ b) = false
in_box (l ∷ v) [] = false
in_box (l ∷ v) (m ∷ b) = has m l && in_box v b

-- the product of the numbers of letters in the sets
abbrev pub area : List ℕ → ℕ
area [] = 1
area (m ∷ b) = count_ones m * area b

-- the box of the common letters of two boxes of one d
abbrev pub meet : List ℕ → List ℕ → List ℕ
meet [] b = []
meet (m ∷ a) [] = []
meet (m ∷ a) (n ∷ b) = bit_and m n ∷ meet a b

-- The area of the box of the common letters. It stops at the first dimension without a common letter, and is then 0.
abbrev pub common : List ℕ → List ℕ → ℕ
common [] b = 1
common (m ∷ a) [] = 1
common (m ∷ a) (n ∷ b) = cond (count_ones (bit_and m n) == 0) 0 (count_ones (bit_and m n) * common a b)

-- the letters that occur in the one box or the other
abbrev pub join : List ℕ → List ℕ → List ℕ
join [] b = []
join (m ∷ a) [] = m ∷ a
join (m ∷ a) (n ∷ b) = bit_or m n ∷ join a b

-- the set of one letter; a byte above 63 is no letter, and its set is empty
abbrev pub only : ℕ → ℕ
only l = cond (nat_lt l 64) (2 ^ l) 0

-- the box of one vector
abbrev pub point : List ℕ → List ℕ
point v = map only v

-- The smallest box around some boxes of d dimensions: in each dimension exactly the letters that occur in them.
abbrev pub joined : List ℕ → List (List ℕ) → List ℕ
joined b [] = b
joined b (c ∷ cs) = joined (join b c) cs

abbrev pub around : ℕ → List (List ℕ) → List ℕ
around d bs = joined (replicate d 0) bs

-- vectors and boxes have from 1 to 10 dimensions
abbrev pub dimensions : ℕ → Bool
dimensions d = nat_le 1 d && nat_le d 10

-- letters up to 63
abbrev pub small : List ℕ → Bool
small [] = true
small (l ∷ v) = nat_le l 63 && small v

-- a vector has 1 to 10 letters up to 63
abbrev pub is_vector : List ℕ → Bool
is_vector v = dimensions (length v) && small v

-- sets of 64 bits
abbrev pub words : List ℕ → Bool
words [] = true
words (m ∷ b) = nat_lt m (2 ^ 64) && words b

-- a box has 1 to 10 sets, each of 64 bits
abbrev pub is_box : List ℕ → Bool
is_box b = dimensions (length b) && words b

-- a value where the test holds, else none
abbrev pub given : {X : Type 0} → Bool → X → Option X
given test x = cond test (Some x) None

-- the area, of a box
abbrev pub area_of : List ℕ → Option ℕ
area_of b = given (dimensions (length b)) (area b)

-- the common area, of two boxes of one d
abbrev pub common_of : List ℕ → List ℕ → Option ℕ
common_of a b = given (dimensions (length a) && length a == length b) (common a b)

-- some values written into slots from the first on, as far as the slots go; the other slots keep what they had
abbrev pub filled : {X : Type 0} → List X → List X → List X
filled xs slots = take (length slots) xs ++ drop (length xs) slots
