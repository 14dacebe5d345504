-- The floor rule of the measures that are sums.
use Rattle.std.specs.Prelude.{◌≡◌, ℕ, suc, ◌≤◌, Bool, true, false, ◌&&◌, List, [], ◌∷◌, length, refl}
use Rattle.std.proofs.Common.{sym, ap, ◌∙◌, arith}
use Rattle.std.proofs.lemmas.Bool.{and_parts}
use Rattle.space.specs.Boxes.{has, in_box, dimensions, small, is_vector, given}
use Rattle.measures.specs.Floor.{Under, Bounded, FloorRule}
use Rattle.measures.specs.Costs.{one_d, vectors, vector_and_box, costs, vector_costs, box_costs, CostRule}
use Rattle.measures.specs.Sums.{vectors_parts, vector_and_box_parts, costs_most, costs_under}

pub in_box_length : (v b : List ℕ) → in_box v b ≡ true → length v ≡ length b
in_box_length [] [] h = refl
in_box_length [] (m ∷ b) h = absurd (let z : ◌≡◌ {A = ℕ} 0 1 = cc in omega arith)
in_box_length (l ∷ v) [] h = absurd (let z : ◌≡◌ {A = ℕ} 0 1 = cc in omega arith)
in_box_length (l ∷ v) (m ∷ b) h = ap suc (in_box_length v b (and_parts (has m l) (in_box v b) h).1)

-- a vector in a box has its d, so that where the query and the one are of one d, so are the query and the other
pub same_d : (q v b : List ℕ) → is_vector v ≡ true → in_box v b ≡ true → vector_and_box q b ≡ vectors q v
same_d q v b h i =
    let n = in_box_length v b i in
    let s = (and_parts (dimensions (length v)) (small v) h).1 in
    ap (λ k. one_d (length q) k && small q) (sym n) ∙ ap (λ t. one_d (length q) (length v) && t) (last (small q) (small v) s)
  where
    last : (a b : Bool) → b ≡ true → a ≡ (a && b)
    last true b e = sym e
    last false b e = refl

-- a test that both share
pub given_under : (t : Bool) (f x : ℕ) → f ≤ x → Under (given t f) (given t x)
given_under true f x h = h
given_under false f x h = tt

pub given_bounded : (t : Bool) (x : ℕ) → (t ≡ true → x ≤ 4294967295) → Bounded (given t x)
given_bounded true x h = h refl
given_bounded false x h = tt

-- Sums keep the floor rule, where the costs of each dimension do, under any test that asks for two vectors, or a vector and a box, of one d,
-- and answers for a vector as for a box that has it.
module _ (letters sets : ℕ → ℕ → ℕ → ℕ) (r : CostRule letters sets) where
  sum_most : (cost : ℕ → ℕ → ℕ → ℕ) → ((i a b : ℕ) → cost i a b ≤ 40960) → (q y : List ℕ) → length q ≤ 10 → costs cost 0 q y ≤ 4294967295
  sum_most cost h q y n = let m = costs_most cost 40960 h 0 q y in omega arith

  pub sums_rule : (s t : List ℕ → List ℕ → Bool) → ((q v : List ℕ) → s q v ≡ true → vectors q v ≡ true) → ((q b : List ℕ) → t q b ≡ true → vector_and_box q b ≡ true)
      → ((q v b : List ℕ) → is_vector v ≡ true → in_box v b ≡ true → t q b ≡ s q v)
      → FloorRule (λ q v. given (s q v) (costs letters 0 q v)) (λ q b. given (t q b) (costs sets 0 q b))
  sums_rule s t asks-vectors asks-box alike = record {
    under = λ q v b h k i.
        let small-v = (and_parts (dimensions (length v)) (small v) h).1 in
        rw (alike q v b h i) (given_under (s q v) (costs sets 0 q b) (costs letters 0 q v) (costs_under letters sets r 0 q v b small-v i));
    far = λ q v h. given_bounded (s q v) (costs letters 0 q v) (λ e. sum_most letters r.letters_most q v (vectors_parts q v (sym (asks-vectors q v e))).1);
    low = λ q b h. given_bounded (t q b) (costs sets 0 q b) (λ e. sum_most sets r.sets_most q b (vector_and_box_parts q b (sym (asks-box q b e))).1);
  }

  -- with no further test
  pub plain_rule : FloorRule (vector_costs letters) (box_costs sets)
  plain_rule = sums_rule vectors vector_and_box (λ q v e. e) (λ q b e. e) same_d

  -- where the query must also pass a test of its own, as its d
  pub tested_rule : (p : List ℕ → Bool) → FloorRule (λ q v. given (vectors q v && p q) (costs letters 0 q v)) (λ q b. given (vector_and_box q b && p q) (costs sets 0 q b))
  tested_rule p =
      sums_rule (λ q v. vectors q v && p q) (λ q b. vector_and_box q b && p q)
      (λ q v e. (and_parts (vectors q v) (p q) e).0) (λ q b e. (and_parts (vector_and_box q b) (p q) e).0)
      (λ q v b h i. ap (λ x. x && p q) (same_d q v b h i))
