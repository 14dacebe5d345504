-- The value of digits as they are read, one after another.
use Rattle.std.proofs.Common.{◌≡◌, ℕ, suc, ◌+◌, ◌-◌, ◌*◌, ◌^◌, ◌≤◌, List, [], ◌∷◌, length, sym, ap, ◌∙◌, mul_assoc, mul_comm, add-mul, pow-suc, zero-mul, mul-one, le-mul_of_pos_right, arith}
use native.Mathlib.Nat.{pow-zero, one-le-pow}
use Rattle.lines.specs.LawsLines.{value_of}

-- a value followed by some digits
abbrev pub extended : ℕ → List ℕ → ℕ
extended n bs = n * 10 ^ length bs + value_of bs

pub extended_none : (n : ℕ) → extended n [] ≡ n
extended_none n = ap (λ p. n * p + 0) (pow-zero 10) ∙ (let e = mul-one n in omega arith)

pub extended_more : (n b : ℕ) (bs : List ℕ) → extended (n * 10 + (b - 48)) bs ≡ extended n (b ∷ bs)
extended_more n b bs =
    let p = 10 ^ length bs in
    let x = b - 48 in
    let e : 10 ^ suc (length bs) ≡ p * 10 = pow-suc 10 (length bs) in
    let f : n * 10 ^ suc (length bs) ≡ n * 10 * p = ap (λ t. n * t) (e ∙ mul_comm p 10) ∙ sym (mul_assoc n 10 p) in
    let g : (n * 10 + x) * p ≡ n * 10 * p + x * p = add-mul (n * 10) x p in
    omega arith

-- digits make no value less
pub extended_least : (n : ℕ) (bs : List ℕ) → n ≤ extended n bs
extended_least n bs = let p : n ≤ n * 10 ^ length bs = le-mul_of_pos_right n (one-le-pow (length bs) 10 (omega arith)) in omega arith

pub extended_zero : (bs : List ℕ) → extended 0 bs ≡ value_of bs
extended_zero bs = let e = zero-mul (10 ^ length bs) in omega arith
