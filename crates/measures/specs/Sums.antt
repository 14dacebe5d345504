-- Sums over the dimensions, and that they keep the floor rule.
use Rattle.std.specs.Prelude.{◌≡◌, ℕ, zero, suc, ◌+◌, ◌*◌, ◌^◌, ◌<◌, ◌≤◌, Bool, true, ◌&&◌, List, [], ◌∷◌, length, drop, Some, ◌==◌, nat_le, slice_index}
use Rattle.std.proofs.Common.{sym, ap, ◌∙◌, mul-suc, add-one, arith}
use Rattle.std.proofs.lemmas.Bool.{and_parts, leb-true, eqb-true}
use Rattle.space.specs.Boxes.{has, in_box, dimensions, small, given}
use Rattle.space.proofs.Areas.{dimensions_most}
use Rattle.space.proofs.Steps.{two_more, two_all}
use Rattle.measures.specs.Costs.{one_d, vectors, vector_and_box, costs, CostRule}

-- what the tests on the arguments say
pub one_d_parts : (a b : ℕ) → one_d a b ≡ true → (a ≡ b) × (a ≤ 10)
one_d_parts a b h =
    let p = and_parts (dimensions a) (a == b) h in
    (eqb-true a b p.1, dimensions_most a p.0)

pub vectors_parts : (q v : List ℕ) → true ≡ vectors q v → (length q ≡ length v) × (length q ≤ 10) × (small q ≡ true) × (small v ≡ true)
vectors_parts q v h =
    let p = and_parts (one_d (length q) (length v)) (small q && small v) (sym h) in
    let d = one_d_parts (length q) (length v) p.0 in
    let s = and_parts (small q) (small v) p.1 in
    (d.0, d.1, s.0, s.1)

pub vector_and_box_parts : (q b : List ℕ) → true ≡ vector_and_box q b → (length q ≡ length b) × (length q ≤ 10) × (small q ≡ true)
vector_and_box_parts q b h =
    let p = and_parts (one_d (length q) (length b)) (small q) (sym h) in
    let d = one_d_parts (length q) (length b) p.0 in
    (d.0, d.1, p.1)

pub small_at : (v : List ℕ) (i : ℕ) → small v ≡ true → slice_index v i ≤ 63
small_at [] i h = omega arith
small_at (l ∷ v) zero h = leb-true l 63 (and_parts (nat_le l 63) (small v) h).0
small_at (l ∷ v) (suc i) h = small_at v i (and_parts (nat_le l 63) (small v) h).1

-- the step of the loops that sum
module _ (cost : ℕ → ℕ → ℕ → ℕ) where
  pub costs_more : (xs ys : List ℕ) (i : ℕ) → i < length xs → i < length ys
      → costs cost i (drop i xs) (drop i ys) ≡ cost i (slice_index xs i) (slice_index ys i) + costs cost (i + 1) (drop (i + 1) xs) (drop (i + 1) ys)
  costs_more xs ys i h k =
      two_more (costs cost i) xs ys i h k ∙ ap (λ n. cost i (slice_index xs i) (slice_index ys i) + costs cost n (drop (i + 1) xs) (drop (i + 1) ys)) (sym (add-one i))

  pub costs_all : (xs ys : List ℕ) (i : ℕ) → length xs ≤ i → length ys ≤ i → costs cost i (drop i xs) (drop i ys) ≡ 0
  costs_all xs ys i h k = two_all (costs cost i) xs ys i h k

  pub costs_most : (most : ℕ) → ((i x y : ℕ) → cost i x y ≤ most) → (i : ℕ) (xs ys : List ℕ) → costs cost i xs ys ≤ most * length xs
  costs_most most h i [] ys = omega arith
  costs_most most h i (x ∷ xs) [] = omega arith
  costs_most most h i (x ∷ xs) (y ∷ ys) =
      let one = h i x y in
      let more = costs_most most h (suc i) xs ys in
      let e : most * suc (length xs) ≡ most * length xs + most = mul-suc most (length xs) in
      omega arith

-- the sum of a box is not above that of a vector in it
pub costs_under : (letters sets : ℕ → ℕ → ℕ → ℕ) → CostRule letters sets → (i : ℕ) (q v b : List ℕ) → small v ≡ true → in_box v b ≡ true → costs sets i q b ≤ costs letters i q v
costs_under letters sets r i [] v b s h = omega arith
costs_under letters sets r i (x ∷ q) [] [] s h = omega arith
costs_under letters sets r i (x ∷ q) [] (m ∷ b) s h = absurd (let z : ◌≡◌ {A = ℕ} 0 1 = cc in omega arith)
costs_under letters sets r i (x ∷ q) (y ∷ v) [] s h = absurd (let z : ◌≡◌ {A = ℕ} 0 1 = cc in omega arith)
costs_under letters sets r i (x ∷ q) (y ∷ v) (m ∷ b) s h =
    let t = and_parts (nat_le y 63) (small v) s in
    let p = and_parts (has m y) (in_box v b) h in
    let one = r.under i x y m p.0 (leb-true y 63 t.0) in
    let more = costs_under letters sets r (suc i) q v b t.1 p.1 in
    omega arith

-- a loop that sums: what is summed and what is left give the whole, and each turn adds little
abbrev pub Summed : (ℕ → ℕ → ℕ → ℕ) → List ℕ → List ℕ → ℕ → ℕ → Type 0
Summed cost q y i sum = (sum + costs cost i (drop i q) (drop i y) ≡ costs cost 0 q y) × (sum ≤ 40960 * i)

module _ (cost : ℕ → ℕ → ℕ → ℕ) (q y : List ℕ) (i sum : ℕ) (so_far : Summed cost q y i sum) where
  pub summed_more : (x : ℕ) → i < length q → i < length y → x ≡ cost i (slice_index q i) (slice_index y i) → x ≤ 40960 → Summed cost q y (i + 1) (sum + x)
  summed_more x h k e m =
      let more = costs_more cost q y i h k in
      let p = so_far.0 in
      let n = so_far.1 in
      (omega arith, omega arith)

  pub summed_fits : (x : ℕ) → i < 10 → x ≤ 40960 → sum + x < 2 ^ 32
  summed_fits x h m = let n = so_far.1 in omega arith

  pub summed_all : length q ≤ i → length y ≤ i → sum ≡ costs cost 0 q y
  summed_all h k = let e = costs_all cost q y i h k in let p = so_far.0 in omega arith

-- the answer where the arguments are as they should be
pub some_given : (t : Bool) (x y : ℕ) → true ≡ t → x ≡ y → Some x ≡ given t y
some_given t x y h e = ap Some e ∙ ap (λ b. given b y) h
