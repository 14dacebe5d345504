-- Layers over a measure: `below` is its distances or its floors.
use Rattle.std.specs.Prelude.{◌≡◌, ℕ, Bool, false, cond, not, ◌&&◌, ◌||◌, List, [], ◌∷◌, Some, None, Option, ◌==◌, bit_and, bit_xor, nat_le}
use Rattle.space.specs.Boxes.{has, given}
use Rattle.measures.specs.Costs.{vectors, vector_and_box}

-- The cut-off: what is above the limit becomes none.
abbrev pub up_to : ℕ → Option ℕ → Option ℕ
up_to limit None = None
up_to limit (Some x) = given (nat_le x limit) x

abbrev pub cut_distance : ℕ → (List ℕ → List ℕ → Option ℕ) → List ℕ → List ℕ → Option ℕ
cut_distance limit below q v = cond (vectors q v) (up_to limit (below q v)) None

abbrev pub cut_floor : ℕ → (List ℕ → List ℕ → Option ℕ) → List ℕ → List ℕ → Option ℕ
cut_floor limit below q b = cond (vector_and_box q b) (up_to limit (below q b)) None

-- The bar: a set of barred letters for each dimension. The vector has one of them.
abbrev pub barred : List ℕ → List ℕ → Bool
barred bars [] = false
barred [] (l ∷ v) = false
barred (m ∷ bars) (l ∷ v) = has m l || barred bars v

-- the letters of the set m that are not in the set x: the digits of m but those that both have
abbrev pub without : ℕ → ℕ → ℕ
without m x = bit_xor m (bit_and m x)

-- what `without` leaves of a set
abbrev pub WithoutHas : Type 0
WithoutHas = (m x l : ℕ) → has (without m x) l ≡ (has m l && not (has x l))

-- a box without its barred letters
abbrev pub spared : List ℕ → List ℕ → List ℕ
spared bars [] = []
spared [] (m ∷ b) = m ∷ b
spared (x ∷ bars) (m ∷ b) = without m x ∷ spared bars b

-- a set is empty
abbrev pub gap : List ℕ → Bool
gap [] = false
gap (m ∷ b) = m == 0 || gap b

abbrev pub bar_distance : List ℕ → (List ℕ → List ℕ → Option ℕ) → List ℕ → List ℕ → Option ℕ
bar_distance bars below q v = cond (vectors q v && not (barred bars v)) (below q v) None

abbrev pub bar_floor : List ℕ → (List ℕ → List ℕ → Option ℕ) → List ℕ → List ℕ → Option ℕ
bar_floor bars below q b = cond (vector_and_box q b && not (gap (spared bars b))) (below q (spared bars b)) None
