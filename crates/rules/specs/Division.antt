-- How nine entries are divided into two groups.
-- A division is named by its code: the sum of 2 ^ (p - 1) over the positions p of the second group.
use Rattle.std.specs.Prelude.{◌≡◌, ℕ, zero, suc, ◌+◌, ◌/◌, ◌%◌, ◌<◌, Bool, true, false, cond, not, ◌&&◌, List, [], ◌∷◌, ◌==◌, count_ones, nat_le}
use Rattle.space.specs.Boxes.{area, common, around, has}
use Rattle.rules.specs.Choice.{Score, less}

-- the entries in the second group (true) or in the first (false), in their order
abbrev pub alike : Bool → Bool → Bool
alike true b = b
alike false b = not b

abbrev pub group : {E : Type 0} → Bool → ℕ → List E → List E
group second code [] = []
group second code (e ∷ es) = cond (alike second (has code 0)) (e ∷ group second (code / 2) es) (group second (code / 2) es)

-- two groups of at least 3 of nine, position 1 in the first
abbrev pub divides : ℕ → Bool
divides code = code % 2 == 0 && (nat_le 3 (count_ones code) && nat_le (count_ones code) 6)

-- the common area of the groups' smallest boxes, the sum of their areas, the code
abbrev pub parting : ℕ → List (List ℕ) → ℕ → Score
parting d boxes code =
    let a = around d (group false code boxes) in let b = around d (group true code boxes) in
    (common a b, area a + area b, code)

-- the best code below n; 14 is the least code that divides
abbrev pub best_below : ℕ → List (List ℕ) → ℕ → ℕ
best_below d boxes zero = 14
best_below d boxes (suc n) =
    let c = best_below d boxes n in
    cond (divides n && less (parting d boxes n) (parting d boxes c)) n c

-- least common area, then least sum of areas, then least code
abbrev pub division : ℕ → List (List ℕ) → ℕ
division d boxes = best_below d boxes 512

-- The same as a relation: the code divides, and no code that divides has a smaller common area, then sum of areas, then code.
pub record Divided (d : ℕ) (boxes : List (List ℕ)) (code : ℕ) : Type 0 where
  pub below : code < 512
  pub two : divides code ≡ true
  pub least : (other : ℕ) → other < 512 → divides other ≡ true → less (parting d boxes other) (parting d boxes code) ≡ false
