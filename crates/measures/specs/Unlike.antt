-- What one dimension costs keeps its rule.
use Rattle.std.specs.Prelude.{◌≡◌, ℕ, ◌-◌, ◌*◌, ◌≤◌, Bool, true, false, cond, ◌==◌, refl}
use Rattle.std.proofs.Common.{ap, ◌∙◌, mul-le-mul, mul-le-mul_right, one-mul, arith}
use Rattle.std.proofs.lemmas.Bool.{both_ways, eqb-true}
use Rattle.std.proofs.lemmas.Bool.Decides.{nat_tests}
use Rattle.space.specs.Boxes.{has}
use Rattle.measures.specs.Costs.{CostRule}
use Rattle.measures.specs.Hammings.{unlike, lacks}
use Rattle.measures.specs.Gehs.{rare, rare_set}

-- a letter of the set is no more unlike than the set
lacks_under : (a b m : ℕ) → has m b ≡ true → cond (has m a) 0 1 ≤ cond (a == b) 0 1
lacks_under a b m h = grind (arith, nat_tests)

pub hamming_costs : CostRule unlike lacks
hamming_costs = record {
  under = λ i a b m h k. lacks_under a b m h;
  letters_most = λ i a b. grind (arith, nat_tests);
  sets_most = λ i a m. grind (arith, nat_tests);
}

-- of a count of at most 10 dimensions and 4,096 clips
pub geh_costs : (d N : ℕ) (c : ℕ → ℕ → ℕ) → d ≤ 10 → N ≤ 4096 → 1 ≤ d → CostRule (rare d N c) (rare_set d N c)
geh_costs d N c few most some = record {
  under = λ i a b m h k. set_under i a b m h;
  letters_most = λ i a b. either (a == b) (N - c i a) (d * N) (omega arith) product;
  sets_most = λ i a m. either (has m a) (N - c i a) (d * N) (omega arith) product;
}
  where
    product : d * N ≤ 40960
    product = let p : d * N ≤ 10 * 4096 = mul-le-mul few most in omega arith

    either : (t : Bool) (x y : ℕ) → x ≤ 40960 → y ≤ 40960 → cond t x y ≤ 40960
    either true x y h k = h
    either false x y h k = k

    less : (x : ℕ) → N - x ≤ d * N
    less x = let p : 1 * N ≤ d * N = mul-le-mul_right N some in let q : 1 * N ≡ N = one-mul N in omega arith

    set_under : (i a b m : ℕ) → has m b ≡ true → rare_set d N c i a m ≤ rare d N c i a b
    set_under i a b m h = go (has m a) refl (a == b) refl
      where
        go : (t : Bool) → has m a ≡ t → (u : Bool) → (a == b) ≡ u → cond t (N - c i a) (d * N) ≤ cond u (N - c i a) (d * N)
        go true p true q = omega arith
        go true p false q = less (c i a)
        go false p true q = absurd (both_ways (has m a) p (ap (has m) (eqb-true a b q) ∙ h))
        go false p false q = omega arith
