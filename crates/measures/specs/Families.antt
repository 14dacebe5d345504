-- Family: letters fall into six families, 0–9, 10–15, 16–31, 32–39, 40–55 and 56–63.
use Rattle.std.specs.Prelude.{ℕ, zero, suc, Bool, false, cond, ◌&&◌, ◌||◌, List, Option, ◌==◌, nat_lt}
use Rattle.space.specs.Boxes.{has}
use Rattle.measures.specs.Costs.{vector_costs, box_costs}

abbrev pub family : ℕ → ℕ
family l = cond (nat_lt l 10) 0 (cond (nat_lt l 16) 1 (cond (nat_lt l 32) 2 (cond (nat_lt l 40) 3 (cond (nat_lt l 56) 4 5))))

abbrev pub akin : ℕ → ℕ → Bool
akin a b = family a == family b

-- one of the letters below n
abbrev pub any_below : ℕ → (ℕ → Bool) → Bool
any_below zero p = false
any_below (suc n) p = p n || any_below n p

-- a letter costs 0 if alike, 1 if of one family, else 2
abbrev pub strange : ℕ → ℕ → ℕ → ℕ
strange i a b = cond (a == b) 0 (cond (akin a b) 1 2)

-- a set costs 0 if it has the query's letter, 1 if it has another of its family, else 2
abbrev pub strange_set : ℕ → ℕ → ℕ → ℕ
strange_set i a m = cond (has m a) 0 (cond (any_below 64 (λ l. has m l && akin a l)) 1 2)

abbrev pub family_distance : List ℕ → List ℕ → Option ℕ
family_distance q v = vector_costs strange q v

abbrev pub family_floor : List ℕ → List ℕ → Option ℕ
family_floor q b = box_costs strange_set q b
