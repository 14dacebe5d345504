-- The plan at the front of a file.
use Rattle.std.proofs.Common.{◌≡◌, ℕ, suc, ◌+◌, ◌<◌, Bool, true, false, ◌&&◌, eqb, List, [], ◌∷◌, length, get_or, take, drop, sym, refl, ap, ◌∙◌, ap₂, arith}
use lib.Pointwise.{pointwise, bytes_decides}
use Rattle.std.proofs.lemmas.List.{drop-drop}
use Rattle.std.proofs.lemmas.Bool.{and_parts, and_from, eqb-true, eq-eqb, false≢true}
use Rattle.rules.specs.File.{header, begins, body}

-- a list begins with another where that is its front
begins_from : (xs ys : List ℕ) → take (length xs) ys ≡ xs → begins xs ys ≡ true
begins_from [] ys e = refl
begins_from (x ∷ xs) [] e = cc
begins_from (x ∷ xs) (y ∷ ys) e = and_from (eqb x y) (begins xs ys) (eq-eqb x y (cc)) (begins_from xs ys (cc))

begins_take : (xs ys : List ℕ) → begins xs ys ≡ true → take (length xs) ys ≡ xs
begins_take [] ys h = refl
begins_take (x ∷ xs) [] h = cc
begins_take (x ∷ xs) (y ∷ ys) h =
    let p = and_parts (eqb x y) (begins xs ys) h in
    ap₂ (λ a b. a ∷ b) (sym (eqb-true x y p.0)) (begins_take xs ys p.1)

-- the first byte of a file is d, and the sizes follow
header_parts : (plan file : List ℕ) → 0 < length file → begins (header plan) file ≡ (eqb (length plan) (get_or file 0 0) && begins plan (drop 1 file))
header_parts plan [] h = absurd (omega arith)
header_parts plan (b ∷ file) h = refl

-- s is what follows the first byte, as a program reads it
module _ (plan file s : List ℕ) (h : 0 < length file) (e : get_or file 0 0 ≡ length plan) (q : s ≡ drop 1 file) where
  abbrev HasPlan : Bool → Type 0
  HasPlan r = pointwise eqb (take (length plan) s) plan ≡ r

  begins_is : begins (header plan) file ≡ begins plan s
  begins_is =
      header_parts plan file h
      ∙ ap₂ (λ t xs. t && begins plan xs) (eq-eqb (length plan) (get_or file 0 0) (sym e)) (sym q)

  pub plan_there : HasPlan true → begins (header plan) file ≡ true
  plan_there m = begins_is ∙ begins_from plan s ((bytes_decides (take (length plan) s) plan).0 m)

  pub plan_not_there : HasPlan false → begins (header plan) file ≡ false
  plan_not_there m = begins_is ∙ not_there (begins plan s) refl
    where
      not_there : (t : Bool) → begins plan s ≡ t → t ≡ false
      not_there true p = absurd (false≢true (sym m ∙ (bytes_decides (take (length plan) s) plan).1 (begins_take plan s p)))
      not_there false p = refl

  -- what follows the plan
  pub behind_plan : drop (length plan) s ≡ body plan file
  behind_plan = ap (drop (length plan)) q ∙ drop-drop (length plan) 1 file ∙ ap (λ n. drop n file) (let a : 1 + length plan ≡ suc (length plan) = omega arith in a)

pub ruleset fronts = (plan_there, plan_not_there, behind_plan)
