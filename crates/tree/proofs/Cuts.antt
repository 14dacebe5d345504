-- Boxes in ten sets, of which the first d count.
use Rattle.std.proofs.Common.{◌≡◌, ℕ, zero, suc, ◌^◌, ◌≤◌, List, [], ◌∷◌, map, take, replicate, IfSome, Some, None, Option, unwrap_or, fold, refl, ap, ◌∙◌, arith, lit<}
use native.Mathlib.Nat.{pow-le-pow_right}
use lib.Bits.{bit_or}
use Rattle.std.proofs.lemmas.List.{take-replicate, take-map}
use Rattle.space.specs.Boxes.{join, joined, point, only, around}

pub take_join : (d : ℕ) (a b : List ℕ) → take d (join a b) ≡ join (take d a) (take d b)
take_join zero a b = refl
take_join (suc d) [] b = refl
take_join (suc d) (m ∷ a) [] = refl
take_join (suc d) (m ∷ a) (n ∷ b) = ap (λ x. bit_or m n ∷ x) (take_join d a b)

take_joined : (d : ℕ) (a : List ℕ) (bs : List (List ℕ)) → take d (joined a bs) ≡ joined (take d a) (map (take d) bs)
take_joined d a [] = refl
take_joined d a (b ∷ bs) = take_joined d (join a b) bs ∙ ap (λ x. joined x (map (take d) bs)) (take_join d a b)

pub take_around : (d : ℕ) (bs : List (List ℕ)) → d ≤ 10 → take d (around 10 bs) ≡ around d (map (take d) bs)
take_around d bs l = take_joined d (replicate 10 0) bs ∙ ap (λ x. joined x (map (take d) bs)) (take-replicate d 10 0 l)

pub take_point : (d : ℕ) (v : List ℕ) → take d (point v) ≡ point (take d v)
take_point d v = take-map only d v

-- a smallest box is made from the left
pub joined_folded : (r : List ℕ) (bs : List (List ℕ)) → fold join r bs ≡ joined r bs
joined_folded r [] = refl
joined_folded r (b ∷ bs) = joined_folded (join r b) bs

-- areas fit
pub power_small : (r i : ℕ) → r ≤ 64 ^ i → i ≤ 10 → r ≤ 2 ^ 60
power_small r i p l = let up : 64 ^ i ≤ 64 ^ 10 = pow-le-pow_right (lit< tt) l in omega arith

-- a bound of what there is, where 1 stands for none
pub bounded_or : (x : Option ℕ) (n r : ℕ) → r ≡ unwrap_or x 1 → IfSome x (λ y. y ≤ 64 ^ n) → n ≤ 10 → r ≤ 2 ^ 60
bounded_or None n r e b l = omega arith
bounded_or (Some y) n r e b l = let p = power_small y n b l in omega arith
