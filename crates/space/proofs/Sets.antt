-- Sets of letters.
use Rattle.std.proofs.Common.{◌≡◌, ℕ, zero, suc, ◌/◌, ◌%◌, ◌^◌, ◌<◌, ◌≤◌, true, false, cond, ◌&&◌, ◌||◌, eqb, List, [], ◌∷◌, length, refl, ap, ◌∙◌, arith, pow_mono}
use native.Mathlib.Nat.{zero-div, div_self, div-eq_of_lt}
use lib.Bits.{bit_and, bit_or}
use Rattle.std.proofs.lemmas.Nat.{and_mask, or_shr, and_shr, or_mod, and_mod, pow_pos}
use Rattle.std.proofs.lemmas.Bool.{lt-ltb}
use Rattle.std.proofs.lemmas.Bool.Decides.{nat_tests}
use Rattle.std.specs.List.{zip, list_all}
use Rattle.space.specs.Boxes.{has, in_box, only, point, filled}

-- ---- one set

-- what the code tests
pub has_shift : (m l : ℕ) → eqb (bit_and (m / 2 ^ l) 1) 1 ≡ has m l
has_shift m l = ap (λ n. eqb n 1) (and_mask (m / 2 ^ l) 1)

-- a set that fits has no byte above 63
pub has_above : (m l : ℕ) → m < 2 ^ 64 → 64 ≤ l → has m l ≡ false
has_above m l h k =
    let p = pow_mono k in
    let z : m / 2 ^ l ≡ 0 = div-eq_of_lt (let q : m < 2 ^ l = omega arith in q) in
    ap (λ n. eqb (n % 2) 1) z

bit_or_lem : (x y : ℕ) → x < 2 → y < 2 → eqb (bit_or x y) 1 ≡ (eqb x 1 || eqb y 1)
bit_or_lem zero zero h k = refl
bit_or_lem zero (suc zero) h k = refl
bit_or_lem zero (suc (suc y)) h k = absurd (omega arith)
bit_or_lem (suc zero) zero h k = refl
bit_or_lem (suc zero) (suc zero) h k = refl
bit_or_lem (suc zero) (suc (suc y)) h k = absurd (omega arith)
bit_or_lem (suc (suc x)) y h k = absurd (omega arith)

bit_and_lem : (x y : ℕ) → x < 2 → y < 2 → eqb (bit_and x y) 1 ≡ (eqb x 1 && eqb y 1)
bit_and_lem zero zero h k = refl
bit_and_lem zero (suc zero) h k = refl
bit_and_lem zero (suc (suc y)) h k = absurd (omega arith)
bit_and_lem (suc zero) zero h k = refl
bit_and_lem (suc zero) (suc zero) h k = refl
bit_and_lem (suc zero) (suc (suc y)) h k = absurd (omega arith)
bit_and_lem (suc (suc x)) y h k = absurd (omega arith)

-- a letter is in the union where it is in one of the two
pub union_has : (a b l : ℕ) → has (bit_or a b) l ≡ (has a l || has b l)
union_has a b l =
    let x = a / 2 ^ l in let y = b / 2 ^ l in
    let e : bit_or a b / 2 ^ l % 2 ≡ bit_or (x % 2) (y % 2) = ap (λ n. n % 2) (or_shr a b l) ∙ or_mod x y 1 in
    ap (λ n. eqb n 1) e ∙ bit_or_lem (x % 2) (y % 2) (omega arith) (omega arith)

-- a letter is common where it is in both
pub both_has : (a b l : ℕ) → has (bit_and a b) l ≡ (has a l && has b l)
both_has a b l =
    let x = a / 2 ^ l in let y = b / 2 ^ l in
    let e : bit_and a b / 2 ^ l % 2 ≡ bit_and (x % 2) (y % 2) = ap (λ n. n % 2) (and_shr a b l) ∙ and_mod x y 1 in
    ap (λ n. eqb n 1) e ∙ bit_and_lem (x % 2) (y % 2) (omega arith) (omega arith)

pub none_has : (l : ℕ) → has 0 l ≡ false
none_has l = ap (λ n. eqb (n % 2) 1) (zero-div (2 ^ l))

-- a letter is in its own set
pub only_has : (l : ℕ) → l < 64 → has (only l) l ≡ true
only_has l h =
    let e : only l ≡ 2 ^ l = ap (λ t. cond t (2 ^ l) 0) (lt-ltb l 64 h) in
    ap (λ m. has m l) e ∙ ap (λ n. eqb (n % 2) 1) (div_self (pow_pos l))

-- ---- the loops over boxes
pub in_unlike : (v b : List ℕ) → (length v ≡ length b → ⊥) → in_box v b ≡ false
in_unlike [] [] h = absurd (h refl)
in_unlike [] (m ∷ b) h = refl
in_unlike (l ∷ v) [] h = refl
in_unlike (l ∷ v) (m ∷ b) h = let more = in_unlike v b (λ e. h (ap suc e)) in grind (arith, nat_tests)

-- the test of each letter beside its set
pub in_zip : (v b : List ℕ) → length v ≡ length b → list_all (λ p. has p.1 p.0) (zip v b) ≡ in_box v b
in_zip [] [] e = refl
in_zip [] (m ∷ b) e = absurd (omega arith)
in_zip (l ∷ v) [] e = absurd (omega arith)
in_zip (l ∷ v) (m ∷ b) e = ap (λ t. has m l && t) (in_zip v b (omega arith))

pub fill_nil : (s : List ℕ) → filled {X = ℕ} [] s ≡ s
fill_nil [] = refl
fill_nil (x ∷ s) = refl

-- the box of a vector, written over some sets
abbrev pub pointed : List ℕ → List ℕ → List ℕ
pointed s v = filled (point v) s
