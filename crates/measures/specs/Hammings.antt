-- Hamming: the dimensions with unlike letters, and those whose set lacks the query's letter.
use Rattle.std.specs.Prelude.{ℕ, cond, List, Option, ◌==◌}
use Rattle.space.specs.Boxes.{has}
use Rattle.measures.specs.Costs.{vector_costs, box_costs}

-- in dimension i, the query's letter a beside the letter b or the set m
abbrev pub unlike : ℕ → ℕ → ℕ → ℕ
unlike i a b = cond (a == b) 0 1

abbrev pub lacks : ℕ → ℕ → ℕ → ℕ
lacks i a m = cond (has m a) 0 1

abbrev pub hamming_distance : List ℕ → List ℕ → Option ℕ
hamming_distance q v = vector_costs unlike q v

abbrev pub hamming_floor : List ℕ → List ℕ → Option ℕ
hamming_floor q b = box_costs lacks q b
