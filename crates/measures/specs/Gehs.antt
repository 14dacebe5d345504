-- Granularity-enhanced Hamming (GEH), by a count of d dimensions and N clips, c i l of them with the letter l in dimension i, from 0.
use Rattle.std.specs.Prelude.{ℕ, ◌-◌, ◌*◌, ◌/◌, cond, ◌&&◌, List, length, Option, ◌==◌}
use Rattle.space.specs.Boxes.{has, given}
use Rattle.measures.specs.Costs.{vectors, vector_and_box, costs}

-- an unlike dimension costs d × N; a like one the less, the more clips have the letter
abbrev pub rare : ℕ → ℕ → (ℕ → ℕ → ℕ) → ℕ → ℕ → ℕ → ℕ
rare d N c i a b = cond (a == b) (N - c i a) (d * N)

abbrev pub rare_set : ℕ → ℕ → (ℕ → ℕ → ℕ) → ℕ → ℕ → ℕ → ℕ
rare_set d N c i a m = cond (has m a) (N - c i a) (d * N)

-- another d than the count's gives none
abbrev pub geh_distance : ℕ → ℕ → (ℕ → ℕ → ℕ) → List ℕ → List ℕ → Option ℕ
geh_distance d N c q v = given (vectors q v && length q == d) (costs (rare d N c) 0 q v)

abbrev pub geh_floor : ℕ → ℕ → (ℕ → ℕ → ℕ) → List ℕ → List ℕ → Option ℕ
geh_floor d N c q b = given (vector_and_box q b && length q == d) (costs (rare_set d N c) 0 q b)

abbrev pub geh_grade : ℕ → ℕ → ℕ → ℕ
geh_grade d N x = x / (d * N)
