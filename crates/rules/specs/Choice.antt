-- Which entry of an inner box a new vector goes to.
use Rattle.std.specs.Prelude.{◌≡◌, ℕ, zero, suc, ◌+◌, ◌-◌, ◌<◌, Bool, true, false, cond, List, [], ◌∷◌, length, ◌==◌, nat_lt, slice_index_or}
use Rattle.space.specs.Boxes.{area, common, join, point}

-- three numbers, compared one after the other
abbrev pub Score : Type 0
Score = ℕ × ℕ × ℕ

abbrev pub lex : ℕ → ℕ → Bool → Bool
lex a b next = cond (nat_lt a b) true (cond (a == b) next false)

abbrev pub less : Score → Score → Bool
less x y = lex x.0 y.0 (lex x.1 y.1 (nat_lt x.2 y.2))

-- the place, below n, of the first least score
abbrev pub first_least : (ℕ → Score) → ℕ → ℕ
first_least score zero = 0
first_least score (suc n) = let b = first_least score n in cond (less (score n) (score b)) n b

-- the sum of the common areas of b with the boxes, the one at place p left out
abbrev pub commons : List ℕ → List (List ℕ) → ℕ
commons b [] = 0
commons b (c ∷ cs) = common b c + commons b cs

abbrev pub commons_but : ℕ → List ℕ → List (List ℕ) → ℕ
commons_but p b [] = 0
commons_but zero b (c ∷ cs) = commons b cs
commons_but (suc p) b (c ∷ cs) = common b c + commons_but p b cs

-- of the entry at place p: the growth of its common areas with the others when the vector joins it, the growth of its area, and its area before
abbrev pub growth : List (List ℕ) → List ℕ → ℕ → Score
growth boxes v p =
    let b = slice_index_or boxes p [] in let grown = join b (point v) in
    (commons_but p grown boxes - commons_but p b boxes, area grown - area b, area b)

-- least growth of common area, then least growth of area, then least area before, then first position
abbrev pub chosen : List (List ℕ) → List ℕ → ℕ
chosen boxes v = first_least (growth boxes v) (length boxes)

-- The same as a relation: the entry at p is one of them, none has a smaller growth, and those before it have a greater.
pub record Chosen (boxes : List (List ℕ)) (v : List ℕ) (p : ℕ) : Type 0 where
  pub one : p < length boxes
  pub least : (i : ℕ) → i < length boxes → less (growth boxes v i) (growth boxes v p) ≡ false
  pub first : (i : ℕ) → i < p → less (growth boxes v p) (growth boxes v i) ≡ true
