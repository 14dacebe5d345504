-- Areas and common areas.
use Rattle.std.proofs.Common.{◌≡◌, ℕ, suc, ◌+◌, ◌*◌, ◌^◌, ◌<◌, ◌≤◌, Bool, true, false, cond, ◌&&◌, eqb, ltb, leb, List, [], ◌∷◌, length, get_or, drop, Some, sym, refl, ap, ◌∙◌, mul_assoc, mul_comm, mul-le-mul, pow-suc, zero-mul, mul-one, add-one, arith}
use native.Mathlib.Nat.{pow-le-pow_right}
use lib.Bits.{bit_and, and_le_l}
use lib.Count.{ones, ones-le}
use Rattle.std.proofs.lemmas.Bool.{eqb-true, eq-eqb, leb-true, ltb-true, and_parts, and_from}
use Rattle.space.specs.Boxes.{area, common, meet, dimensions, words, given, common_of}
use Rattle.space.proofs.Steps.{one_more, one_all}

-- from 1 to 10
pub dimensions_most : (d : ℕ) → dimensions d ≡ true → d ≤ 10
dimensions_most d h = leb-true d 10 (and_parts (leb 1 d) (leb d 10) h).1

-- one dimension more, of at most 64 letters
pub power_more : (n x i : ℕ) → n ≤ 64 ^ i → x ≤ 64 → n * x ≤ 64 ^ (i + 1)
power_more n x i h k =
    let p : n * x ≤ 64 ^ i * 64 = mul-le-mul h k in
    let q : 64 ^ (i + 1) ≡ 64 ^ i * 64 = ap (λ j. 64 ^ j) (add-one i) ∙ pow-suc 64 i in
    omega arith

-- of ten dimensions every product fits a word
pub power_fits : (n i : ℕ) → n ≤ 64 ^ i → i ≤ 10 → n < 2 ^ 64
power_fits n i h k =
    let p : 64 ^ i ≤ 64 ^ 10 = pow-le-pow_right (let z : 0 < 64 = omega arith in z) k in
    omega arith

pub area_more : (n i : ℕ) (b : List ℕ) → i < length b → n * area (drop i b) ≡ (n * ones (get_or b i 0)) * area (drop (i + 1) b)
area_more n i b h = ap (λ x. n * x) (one_more area b 0 i h) ∙ sym (mul_assoc n (ones (get_or b i 0)) (area (drop (i + 1) b)))

pub area_all : (n i : ℕ) (b : List ℕ) → length b ≤ i → n * area (drop i b) ≡ n
area_all n i b h = ap (λ x. n * x) (one_all area b i h) ∙ mul-one n

-- a common area is a product, also where it stops early
pub common_product : (m n : ℕ) (a b : List ℕ) → common (m ∷ a) (n ∷ b) ≡ ones (bit_and m n) * common a b
common_product m n a b = go (eqb (ones (bit_and m n)) 0) refl
  where
    go : (t : Bool) → eqb (ones (bit_and m n)) 0 ≡ t → cond t 0 (ones (bit_and m n) * common a b) ≡ ones (bit_and m n) * common a b
    go true e = sym (ap (λ x. x * common a b) (eqb-true (ones (bit_and m n)) 0 e) ∙ zero-mul (common a b))
    go false e = refl

-- the common area is the area of the box of the common letters
pub common_meet : (a b : List ℕ) → length a ≡ length b → common a b ≡ area (meet a b)
common_meet [] b h = refl
common_meet (m ∷ a) [] h = absurd (omega arith)
common_meet (m ∷ a) (n ∷ b) h = go (common_meet a b (omega arith)) (eqb (ones (bit_and m n)) 0) refl
  where
    go : common a b ≡ area (meet a b) → (t : Bool) → eqb (ones (bit_and m n)) 0 ≡ t → cond t 0 (ones (bit_and m n) * common a b) ≡ ones (bit_and m n) * area (meet a b)
    go more true e = sym (ap (λ x. x * area (meet a b)) (eqb-true (ones (bit_and m n)) 0 e) ∙ zero-mul (area (meet a b)))
    go more false e = ap (λ x. ones (bit_and m n) * x) more

-- two sets have at most 64 letters in common
pub common_few : (m n : ℕ) → m < 2 ^ 64 → ones (bit_and m n) ≤ 64
common_few m n h = let l = and_le_l m n in ones-le 64 (bit_and m n) (omega arith)

-- no area of d sets is above 64 ^ d
pub area_most : (b : List ℕ) → words b ≡ true → area b ≤ 64 ^ length b
area_most [] h = omega arith
area_most (m ∷ b) h =
    let p = and_parts (ltb m (2 ^ 64)) (words b) h in
    let k = ones-le 64 m (ltb-true m (2 ^ 64) p.0) in
    let more = area_most b p.1 in
    let q = power_more (area b) (ones m) (length b) more k in
    let e : ones m * area b ≡ area b * ones m = mul_comm (ones m) (area b) in
    let n : 64 ^ suc (length b) ≡ 64 ^ (length b + 1) = ap (λ i. 64 ^ i) (sym (add-one (length b))) in
    omega arith

-- the answer where both are boxes of one d
pub common_given : (a b : List ℕ) (x : ℕ) → dimensions (length a) ≡ true → length a ≡ length b → x ≡ common a b → x ≤ 64 ^ length a
    → record { value : Some x ≡ common_of a b; area : Some x ≡ Some (area (meet a b)); most : x ≤ 64 ^ length a }
common_given a b x d e h m =
    let t : (dimensions (length a) && eqb (length a) (length b)) ≡ true = and_from (dimensions (length a)) _ d (eq-eqb _ _ e) in
    record { value = ap Some h ∙ ap (λ u. given u (common a b)) (sym t); area = ap Some (h ∙ common_meet a b e); most = m }
