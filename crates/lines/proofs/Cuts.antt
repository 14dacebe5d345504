-- The first line feed of a text.
use Rattle.std.proofs.Common.{◌≡◌, ℕ, ◌+◌, ◌-◌, Bool, true, false, eqb, List, [], ◌∷◌, ◌++◌, length, take, drop, is_some, Some, None, refl, ap, ⊎_elim, MatchOption, arith}
use Rattle.std.proofs.lemmas.Grind.{common_steps}
use Rattle.std.proofs.lemmas.List.{take_rest}
use Rattle.std.specs.List.{before_first, position}
use Rattle.std.specs.Option.{option_map}
use Rattle.std.proofs.lemmas.Bool.{cases_Bool, eqb-true, eqb-false}
use Rattle.lines.specs.Lines.{line_of, rest_of, lines_of, lines_left, longer_first}
use Rattle.lines.specs.LawsLines.{Plain, LinesLaw}

abbrev pub feed : ℕ → Bool
feed b = eqb b 10

-- ---- the line feed stands at its first position: the line is what is before it, and the rest what is behind it
pub line_before : (s : List ℕ) → line_of s ≡ before_first feed s
line_before [] = refl
line_before (b ∷ s) =
    ⊎_elim
    (λ (e : eqb b 10 ≡ true). rw e refl)
    (λ (e : eqb b 10 ≡ false). rw e (grind (arith, common_steps, line_before s)))
    (cases_Bool (eqb b 10))

pub rest_after : (s : List ℕ) → rest_of s ≡ option_map (λ i. drop (i + 1) s) (position feed s)
rest_after [] = refl
rest_after (b ∷ s) =
    ⊎_elim
    (λ (e : eqb b 10 ≡ true). rw e (grind (arith, common_steps)))
    (λ (e : eqb b 10 ≡ false). rw e (grind (arith, common_steps, rest_after s)))
    (cases_Bool (eqb b 10))

-- what the code lends is the rest, taken whole
pub rest_there : (s : List ℕ) (i : ℕ) → position feed s ≡ Some i → Some (take (length s - (i + 1)) (drop (i + 1) s)) ≡ rest_of s
rest_there s i e = grind (arith, common_steps, rest_after s, take_rest s (i + 1))

pub line_whole : (s : List ℕ) → position feed s ≡ None → s ≡ line_of s
line_whole s e = grind (arith, common_steps, line_before s)

pub ruleset cuts = (line_before, rest_after, rest_there, line_whole)

-- ---- the lines of a text are its first line and those of its rest
pub lines_more : (s : List ℕ) → lines_of s ≡ (line_of s, is_some (rest_of s)) ∷ lines_left (rest_of s)
lines_more [] = refl
lines_more (b ∷ s) =
    ⊎_elim
    (λ (e : eqb b 10 ≡ true). rw e refl)
    (λ (e : eqb b 10 ≡ false). rw e (ap (longer_first b) (lines_more s)))
    (cases_Bool (eqb b 10))

-- ---- what a line is
plain : (s : List ℕ) → Plain (line_of s)
plain [] = tt
plain (b ∷ s) =
    ⊎_elim
    (λ (e : eqb b 10 ≡ true). rw e tt)
    (λ (e : eqb b 10 ≡ false). rw e (eqb-false b 10 e, plain s))
    (cases_Bool (eqb b 10))

abbrev Whole : List ℕ → Type 0
Whole s = MatchOption (rest_of s) (s ≡ line_of s) (λ rest. s ≡ line_of s ++ (10 ∷ rest))

whole : (s : List ℕ) → Whole s
whole [] = refl
whole (b ∷ s) =
    ⊎_elim
    (λ (e : eqb b 10 ≡ true). rw e (ap (λ n. n ∷ s) (eqb-true b 10 e)))
    (λ (e : eqb b 10 ≡ false). rw e (one b s (whole s)))
    (cases_Bool (eqb b 10))
  where
    one : (b : ℕ) (s : List ℕ) → Whole s → MatchOption (rest_of s) (b ∷ s ≡ b ∷ line_of s) (λ rest. b ∷ s ≡ b ∷ (line_of s ++ (10 ∷ rest)))
    one b s w =
        elim (rest_of s) as (λ o. MatchOption o (s ≡ line_of s) (λ rest. s ≡ line_of s ++ (10 ∷ rest)) → MatchOption o (b ∷ s ≡ b ∷ line_of s) (λ rest. b ∷ s ≡ b ∷ (line_of s ++ (10 ∷ rest))))
        [ None ↦ (λ e. ap (λ t. b ∷ t) e) | Some rest ↦ (λ e. ap (λ t. b ∷ t) e) ]
        w

pub lines_law : LinesLaw
lines_law s = (plain s, whole s, lines_more s)
