-- Areas and common areas do not fall when a box is joined.
use Rattle.std.proofs.Common.{◌≡◌, ℕ, zero, suc, ◌+◌, ◌/◌, ◌%◌, ◌<◌, ◌≤◌, true, eqb, ◌⊎◌, List, [], ◌∷◌, sym, refl, ap, ◌∙◌, subst, inl, inr, ⊎_elim, div-one, arith}
use lib.Bits.{bit_and, bit_or}
use lib.Count.{ones, ones_step}
use Rattle.std.proofs.lemmas.Nat.{mul-le, shr-shr}
use Rattle.std.proofs.lemmas.Bool.{and_parts, and_from, or_left, eqb-true, eq-eqb}
use Rattle.space.specs.Boxes.{has, area, common, join}
use Rattle.space.proofs.Areas.{common_product}
use Rattle.space.proofs.Sets.{union_has, both_has}

-- every letter of the one is in the other
abbrev pub Within : ℕ → ℕ → Type 0
Within a b = (l : ℕ) → has a l ≡ true → has b l ≡ true

half_has : (a l : ℕ) → has (a / 2) l ≡ has a (1 + l)
half_has a l = ap (λ n. eqb (n % 2) 1) (shr-shr a 1 l)

ones_within : (n a b : ℕ) → a ≤ n → Within a b → ones a ≤ ones b
unfolding ones
ones_within zero a b h w = let z : a ≡ 0 = omega arith in subst (λ x. ones x ≤ ones b) (sym z) (omega arith)
ones_within (suc n) a b h w =
    let more = ones_within n (a / 2) (b / 2) (omega arith) (λ l e. half_has b l ∙ w (1 + l) (sym (half_has a l) ∙ e)) in
    let low : a % 2 ≤ b % 2 = lower in
    omega (arith, ones_step a, ones_step b)
  where
    split : (x : ℕ) → x < 2 → (x ≡ 0) ⊎ (x ≡ 1)
    split zero h = inl refl
    split (suc zero) h = inr refl
    split (suc (suc x)) h = absurd (omega arith)

    lower : a % 2 ≤ b % 2
    lower =
        let f : a % 2 ≡ 1 → b % 2 ≡ 1 = λ e. let q = eqb-true (b / 1 % 2) 1 (w 0 (eq-eqb (a / 1 % 2) 1 (ap (λ n. n % 2) (div-one a) ∙ e))) in omega (arith, div-one b) in
        ⊎_elim (λ (z : a % 2 ≡ 0). omega arith) (λ (z : a % 2 ≡ 1). let g = f z in omega arith) (split (a % 2) (omega arith))

pub ones_grow : (a b : ℕ) → Within a b → ones a ≤ ones b
ones_grow a b w = ones_within a a b (omega arith) w

-- ---- areas do not fall
union_within : (m n : ℕ) → Within m (bit_or m n)
union_within m n l e = union_has m n l ∙ or_left (has m l) (has n l) e

union_within_and : (m n x : ℕ) → Within (bit_and m x) (bit_and (bit_or m n) x)
union_within_and m n x l e =
    let p = and_parts (has m l) (has x l) (sym (both_has m x l) ∙ e) in
    both_has (bit_or m n) x l ∙ and_from (has (bit_or m n) l) (has x l) (union_within m n l p.0) p.1

pub area_grows : (a c : List ℕ) → area a ≤ area (join a c)
area_grows [] c = omega arith
area_grows (m ∷ a) [] = omega arith
area_grows (m ∷ a) (n ∷ c) = mul-le (ones m) (area a) (ones (bit_or m n)) (area (join a c)) (ones_grow m (bit_or m n) (union_within m n)) (area_grows a c)

pub common_grows : (a c x : List ℕ) → common a x ≤ common (join a c) x
common_grows [] c x = omega arith
common_grows (m ∷ a) [] x = omega arith
common_grows (m ∷ a) (n ∷ c) [] = omega arith
common_grows (m ∷ a) (n ∷ c) (y ∷ x) =
    let p = mul-le (ones (bit_and m y)) (common a x) (ones (bit_and (bit_or m n) y)) (common (join a c) x) (ones_grow (bit_and m y) (bit_and (bit_or m n) y) (union_within_and m n y)) (common_grows a c x) in
    omega (arith, common_product m y a x, common_product (bit_or m n) y (join a c) x, p)
