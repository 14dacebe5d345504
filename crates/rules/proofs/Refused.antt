-- When none of some refusals is there.
use Rattle.std.proofs.Common.{◌≡◌, ℕ, Bool, true, false, cond, eqb, Some, None, Option, refl, ap, ◌∙◌, arith}
use Rattle.std.proofs.lemmas.Bool.{eqb-true, eq-eqb}
use Rattle.rules.specs.Refusals.{Refusal, refused_at, when, when_at, ◌else◌}

pub some_none : (r : Refusal) → Some r ≡ None → ⊥
some_none r e = let z : ◌≡◌ {A = ℕ} 0 1 = cc in omega arith

-- ---- of an answer that is none
pub else_none : (a b : Option Refusal) → (a else b) ≡ None → (a ≡ None) × (b ≡ None)
else_none None b e = (refl, e)
else_none (Some r) b e = absurd (some_none r e)

pub when_none : (t : Bool) (n : ℕ) → when t n ≡ None → t ≡ false
when_none true n e = absurd (some_none (refused_at n 0 0) e)
when_none false n e = refl

pub when_at_none : (n place row : ℕ) → when_at n place row ≡ None → place ≡ 0
when_at_none n place row e = go (eqb place 0) refl e
  where
    go : (t : Bool) → eqb place 0 ≡ t → cond t None (Some (refused_at n place row)) ≡ None → place ≡ 0
    go true p e = eqb-true place 0 p
    go false p e = absurd (some_none (refused_at n place row) e)

-- ---- an answer that is none
pub none_else : (a b : Option Refusal) → a ≡ None → b ≡ None → (a else b) ≡ None
none_else a b p q = ap (λ x. x else b) p ∙ q

pub none_when : (t : Bool) (n : ℕ) → t ≡ false → when t n ≡ None
none_when t n e = ap (λ x. when x n) e

pub none_when_at : (n place row : ℕ) → place ≡ 0 → when_at n place row ≡ None
none_when_at n place row e = ap (λ t. cond t None (Some (refused_at n place row))) (eq-eqb place 0 e)
