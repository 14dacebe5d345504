-- The first fault of a plan or a vector.
use Rattle.std.proofs.Common.{◌≡◌, ℕ, suc, ◌+◌, Bool, true, false, not, cond, ◌||◌, ltb, leb, List, [], ◌∷◌, length, Some, None, Ok, Err, Option, Result, MatchOption, refl, ap, ◌∙◌, zero-add, arith}
use Rattle.std.specs.List.{zip, position, position_or_len}
use Rattle.std.specs.Option.{option_map}
use Rattle.std.proofs.lemmas.Bool.Decides.{nat_tests}
use Rattle.space.specs.Plans.{size_fault, letter_fault, unless_fault}
use Rattle.space.specs.declared.plan.PlanFault.TheVariants.{Size}
use Rattle.space.specs.declared.plan.ClipFault.TheVariants.{Letter}

-- ---- the first fault, as the place where a test first holds
module _ {Z F : Type 0} (bad : Z → Bool) (at : ℕ → F) where
  -- the fault of the first element that is bad, counted from i
  abbrev pub fault_from : ℕ → List Z → Option F
  fault_from i [] = None
  fault_from i (z ∷ zs) = cond (bad z) (Some (at i)) (fault_from (suc i) zs)

  further : (i n : ℕ) (b : Bool) → option_map (λ k. at (k + i)) (cond b (Some (1 + n)) None) ≡ option_map (λ k. at (k + suc i)) (cond b (Some n) None)
  further i n true = ap (λ m. Some (at m)) (let e : 1 + n + i ≡ n + suc i = omega arith in e)
  further i n false = refl

  abbrev place : ℕ → ℕ → Option ℕ
  place n l = cond (ltb n l) (Some n) None

  step : (i : ℕ) (z : Z) (zs : List Z) (b : Bool) → bad z ≡ b → option_map (λ k. at (k + suc i)) (position bad zs) ≡ fault_from (suc i) zs
      → option_map (λ k. at (k + i)) (place (cond (not b) (1 + position_or_len bad zs) 0) (length (z ∷ zs))) ≡ cond b (Some (at i)) (fault_from (suc i) zs)
  step i z zs true e more =
      let t : ltb 0 (length (z ∷ zs)) ≡ true = grind (arith, nat_tests) in
      ap (λ b. option_map (λ k. at (k + i)) (cond b (Some 0) None)) t ∙ ap (λ m. Some (at m)) (zero-add i)
  step i z zs false e more =
      let n = position_or_len bad zs in
      let t : ltb (1 + n) (length (z ∷ zs)) ≡ ltb n (length zs) = grind (arith, nat_tests) in
      ap (λ b. option_map (λ k. at (k + i)) (cond b (Some (1 + n)) None)) t ∙ further i n (ltb n (length zs)) ∙ more

  pub fault_at : (i : ℕ) (zs : List Z) → option_map (λ k. at (k + i)) (position bad zs) ≡ fault_from i zs
  fault_at i [] = refl
  fault_at i (z ∷ zs) = step i z zs (bad z) refl (fault_at (suc i) zs)

pub size_at : (i : ℕ) (s : List ℕ) → fault_from (λ n. ltb n 1 || ltb 64 n) Size i s ≡ size_fault i s
size_at i [] = refl
size_at i (n ∷ s) = let more = size_at (suc i) s in grind (arith, nat_tests)

pub letter_at : (i : ℕ) (s v : List ℕ) → length v ≡ length s → fault_from (λ p. leb p.1 p.0) Letter i (zip v s) ≡ letter_fault i s v
letter_at i [] [] e = refl
letter_at i [] (l ∷ v) e = absurd (omega arith)
letter_at i (n ∷ s) [] e = absurd (omega arith)
letter_at i (n ∷ s) (l ∷ v) e = let more = letter_at (suc i) s v (omega arith) in grind (arith, nat_tests)

-- an answer that is fine, or tells the first fault
pub first_told : {F : Type 0} (at : ℕ → F) (o : Option ℕ) (r : Result (Unit {0}) F) (P : ℕ → Type 0) → MatchOption o (r ≡ Ok tt) P → ((i : ℕ) → P i → r ≡ Err (at (i + 1)))
    → r ≡ unless_fault (option_map (λ k. at (k + 1)) o)
first_told at None r P e is = e
first_told at (Some i) r P e is = is i e

-- what an answer says of the fault
pub fault_none : {F : Type 0} (f : Option F) {x : Unit {0}} → Ok x ≡ unless_fault f → f ≡ None
fault_none None e = refl
fault_none (Some y) e = absurd (let z : ◌≡◌ {A = ℕ} 0 1 = cc in omega arith)

pub fault_some : {F : Type 0} (f : Option F) {y : F} → Err y ≡ unless_fault f → f ≡ Some y
fault_some None e = absurd (let z : ◌≡◌ {A = ℕ} 0 1 = cc in omega arith)
fault_some (Some x) e = cc
