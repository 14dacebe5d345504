-- Laws of the groups of a division.
use Rattle.std.proofs.Common.{◌≡◌, ℕ, ◌+◌, ◌/◌, ◌^◌, ◌<◌, Bool, true, false, cond, List, [], ◌∷◌, map, length, get_or, drop, sym, refl, ap, ◌∙◌, div-one}
use Rattle.std.proofs.lemmas.List.{drop_more}
use Rattle.std.proofs.lemmas.Nat.{shr-shr}
use mathlib.Core.Bool.{beq}
use Rattle.space.specs.Boxes.{has}
use Rattle.rules.specs.Division.{alike, group}
use Rattle.tree.proofs.Lists.{alike_beq}

cond_map : {A B : Type 0} (f : A → B) (t : Bool) (x y : A) → f (cond t x y) ≡ cond t (f x) (f y)
cond_map f true x y = refl
cond_map f false x y = refl

pub group_map : {E F : Type 0} (f : E → F) (b : Bool) (c : ℕ) (es : List E) → group b c (map f es) ≡ map f (group b c es)
group_map f b c [] = refl
group_map f b c (e ∷ es) =
    ap (λ r. cond (alike b (has c 0)) (f e ∷ r) r) (group_map f b (c / 2) es)
    ∙ sym (cond_map (map f) (alike b (has c 0)) (e ∷ group b (c / 2) es) (group b (c / 2) es))

-- what is still to come from the place i on, whose bit is t
module _ {E : Type 0} (b : Bool) (code : ℕ) (es : List E) (i : ℕ) (d : E) (t : Bool) (l : i < length es) (is : t ≡ has (code / 2 ^ i) 0) where
  abbrev later : List E
  later = group b (code / 2 ^ (i + 1)) (drop (i + 1) es)

  group_at : group b (code / 2 ^ i) (drop i es) ≡ cond (beq t b) (get_or es i d ∷ later) later
  group_at =
      ap (group b (code / 2 ^ i)) (drop_more es i d l)
      ∙ ap (λ c. cond (alike b (has (code / 2 ^ i) 0)) (get_or es i d ∷ group b c (drop (i + 1) es)) (group b c (drop (i + 1) es))) (shr-shr code i 1)
      ∙ ap (λ u. cond (alike b u) (get_or es i d ∷ later) later) (sym is) ∙ ap (λ u. cond u (get_or es i d ∷ later) later) (sym (alike_beq t b))

  pub group_takes : beq t b ≡ true → group b (code / 2 ^ i) (drop i es) ≡ get_or es i d ∷ later
  group_takes e = group_at ∙ ap (λ u. cond u (get_or es i d ∷ later) later) e

  pub group_passes : beq t b ≡ false → group b (code / 2 ^ i) (drop i es) ≡ later
  group_passes e = group_at ∙ ap (λ u. cond u (get_or es i d ∷ later) later) e

pub group_start : {E : Type 0} (b : Bool) (code : ℕ) (es : List E) → group b (code / 2 ^ 0) (drop 0 es) ≡ group b code es
group_start b code es = ap (λ c. group b c es) (div-one code)
