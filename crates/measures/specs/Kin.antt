-- Letters of one family, and sets that have one of them.
use Rattle.std.specs.Prelude.{◌≡◌, ℕ, zero, suc, ◌*◌, ◌/◌, ◌%◌, ◌^◌, ◌<◌, ◌≤◌, Bool, true, false, cond, not, ◌&&◌, ◌||◌, ◌==◌, ◌≢◌, bit_and, nat_eq, refl}
use Rattle.std.proofs.Common.{sym, ap, ap₂, ◌∙◌, ⊎_elim, pow-suc, mul_comm, one-mul, le-div_iff_mul-le, arith}
use Rattle.std.proofs.lemmas.Nat.{div_below, pow_pos, shr_le, and_le_l}
use Rattle.std.proofs.lemmas.Bool.{and_parts, and_from, both_ways, or_left, or_right, cases_lt, eqb-true, eq-eqb, ne_eqb, eqb-false}
use Rattle.space.specs.Boxes.{has}
use Rattle.space.proofs.Sets.{both_has}
use Rattle.measures.specs.Costs.{CostRule}
use Rattle.measures.specs.Families.{family, akin, any_below, strange, strange_set}

-- ---- a test computed over all letters
abbrev pub same : Bool → Bool → Bool
same true b = b
same false b = not b

same_is : (a b : Bool) → same a b ≡ true → a ≡ b
same_is true b h = sym h
same_is false true h = absurd (let z : ◌≡◌ {A = ℕ} 0 1 = cc in omega arith)
same_is false false h = refl

abbrev pub all_below : ℕ → (ℕ → Bool) → Bool
all_below zero p = true
all_below (suc n) p = p n && all_below n p

all_at : (n : ℕ) (p : ℕ → Bool) → all_below n p ≡ true → (l : ℕ) → l < n → p l ≡ true
all_at zero p h l k = absurd (omega arith)
all_at (suc n) p h l k =
    let b = and_parts (p n) (all_below n p) h in
    ⊎_elim (λ (s : l < n). all_at n p b.1 l s) (λ (s : n ≤ l). let e : l ≡ n = omega arith in ap p e ∙ b.0) (cases_lt l n)

-- a mask that has, of all letters, just those of the family f; the test is computed
pub mask_akin : (mask f : ℕ) → all_below 64 (λ l. same (has mask l) (f == family l)) ≡ true
    → (a : ℕ) → family a ≡ f → (l : ℕ) → l < 64 → has mask l ≡ akin a l
mask_akin mask f h a e l k =
    same_is (has mask l) (f == family l) (all_at 64 (λ n. same (has mask n) (f == family n)) h l k) ∙ ap (λ n. nat_eq n (family l)) (sym e)

-- ---- a set that is not empty has a letter
any_same : (n : ℕ) (p q : ℕ → Bool) → ((l : ℕ) → l < n → p l ≡ q l) → any_below n p ≡ any_below n q
any_same zero p q h = refl
any_same (suc n) p q h = ap₂ (λ x y. x || y) (h n (omega arith)) (any_same n p q (λ l k. h l (omega arith)))

pub any_at : (n : ℕ) (p : ℕ → Bool) (l : ℕ) → l < n → p l ≡ true → any_below n p ≡ true
any_at zero p l k h = absurd (omega arith)
any_at (suc n) p l k h =
    ⊎_elim (λ (s : l < n). or_right (p n) (any_below n p) (any_at n p l s h)) (λ (s : n ≤ l). let e : n ≡ l = omega arith in or_left (p n) (any_below n p) (ap p e ∙ h)) (cases_lt l n)

-- without the digit n, a number below 2 ^ (n + 1) is below 2 ^ n
without_top : (n x : ℕ) → x < 2 ^ suc n → has x n ≡ false → x < 2 ^ n
without_top n x h e =
    let p = pow_pos n in
    let s : 2 ^ suc n ≡ 2 ^ n * 2 = pow-suc 2 n in
    let m : 2 * 2 ^ n ≡ 2 ^ n * 2 = mul_comm 2 (2 ^ n) in
    let q : x / 2 ^ n < 2 = div_below x (2 ^ n) 2 p (omega arith) in
    let f = eqb-false (x / 2 ^ n % 2) 1 e in
    let z : x / 2 ^ n ≡ 0 = small (x / 2 ^ n) q f in
    ⊎_elim (λ (l : x < 2 ^ n). l) (λ (l : 2 ^ n ≤ x). absurd (let o : 1 ≤ x / 2 ^ n = le_div (2 ^ n) x p l in omega arith)) (cases_lt x (2 ^ n))
  where
    small : (y : ℕ) → y < 2 → (y % 2 ≢ 1) → y ≡ 0
    small zero h f = refl
    small (suc zero) h f = absurd (f refl)
    small (suc (suc y)) h f = absurd (omega arith)

    le_div : (k y : ℕ) → 0 < k → k ≤ y → 1 ≤ y / k
    le_div k y p l = (le-div_iff_mul-le p).1 (let o : 1 * k ≡ k = one-mul k in omega arith)

pub none_of : (n x : ℕ) → x < 2 ^ n → (x == 0) ≡ not (any_below n (has x))
none_of zero x h = let z : x ≡ 0 = omega arith in eq-eqb x 0 z
none_of (suc n) x h = go (none_of n x) (has x n) refl
  where
    go : (x < 2 ^ n → (x == 0) ≡ not (any_below n (has x))) → (t : Bool) → has x n ≡ t → (x == 0) ≡ not (t || any_below n (has x))
    go more true e = let s = shr_le x n in let d = eqb-true (x / 2 ^ n % 2) 1 e in ne_eqb x 0 (λ z. omega arith)
    go more false e = more (without_top n x h e)

-- the common letters of a set and a family
pub common_family : (m mask a : ℕ) → m < 2 ^ 64 → ((l : ℕ) → l < 64 → has mask l ≡ akin a l) → not (bit_and m mask == 0) ≡ any_below 64 (λ l. has m l && akin a l)
common_family m mask a h k =
    let b = and_le_l m mask in
    ap not (none_of 64 (bit_and m mask) (omega arith)) ∙ twice (any_below 64 (has (bit_and m mask)))
    ∙ any_same 64 (has (bit_and m mask)) (λ l. has m l && akin a l) (λ l s. both_has m mask l ∙ ap (λ t. has m l && t) (k l s))
  where
    twice : (t : Bool) → not (not t) ≡ t
    twice true = refl
    twice false = refl

-- ---- what one dimension costs keeps its rule
set_under : (a b m : ℕ) → has m b ≡ true → b ≤ 63 → strange_set 0 a m ≤ strange 0 a b
set_under a b m h k =
    let kin : akin a b ≡ true → any_below 64 (λ l. has m l && akin a l) ≡ true =
    λ e. any_at 64 (λ l. has m l && akin a l) b (omega arith) (and_from (has m b) (akin a b) h e) in
    go (has m a) refl (akin a b) refl (any_below 64 (λ l. has m l && akin a l)) kin (a == b) refl
  where
    go : (t : Bool) → has m a ≡ t → (u : Bool) → akin a b ≡ u → (w : Bool) → (u ≡ true → w ≡ true) → (e : Bool) → (a == b) ≡ e
        → cond t 0 (cond w 1 2) ≤ cond e 0 (cond u 1 2)
    go true p u q w f e r = omega arith
    go false p u q w f true r = absurd (both_ways (has m a) p (ap (has m) (eqb-true a b r) ∙ h))
    go false p true q true f false r = omega arith
    go false p true q false f false r = absurd (let z = f refl in let o : ◌≡◌ {A = ℕ} 0 1 = cc in omega arith)
    go false p false q true f false r = omega arith
    go false p false q false f false r = omega arith

pub family_costs : CostRule strange strange_set
family_costs = record {
  under = λ i a b m h k. set_under a b m h k;
  letters_most = λ i a b. few (a == b) (akin a b);
  sets_most = λ i a m. few (has m a) (any_below 64 (λ l. has m l && akin a l));
}
  where
    few : (t u : Bool) → cond t 0 (cond u 1 2) ≤ 40960
    few true u = omega arith
    few false true = omega arith
    few false false = omega arith
