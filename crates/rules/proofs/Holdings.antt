-- The boxes of a build are boxes and hold the rows below, so that a measure's floor rule holds of them.
use Rattle.std.proofs.Common.{◌≡◌, ℕ, zero, suc, true, List, [], ◌∷◌, map, length, replicate, Option, sym, ap, ◌∙◌, subst}
use Rattle.std.specs.List.{AllByRecursion}
use Rattle.std.proofs.lemmas.List.{length-replicate}
use Rattle.std.proofs.ByRecursion.{All-append, All-weaker}
use Rattle.std.proofs.lemmas.Bool.{and_from}
use Rattle.space.specs.Boxes.{join, point, joined, around, dimensions, small, words, is_vector, is_box}
use Rattle.space.specs.Row.{Row}
use Rattle.space.proofs.Arounds.{length_join, length_around, length_point, in_join_right, in_joined_first, in_point}
use Rattle.space.proofs.Words.{words_around, words_point, box_around}
use Rattle.measures.specs.Floor.{Under, FloorRule}
use Rattle.rules.specs.Tree.{Entry, sets_of, rows_below, rows_in}
use Rattle.rules.specs.Build.{Below}
use Rattle.rules.specs.Machine.{Ruled}
use Rattle.rules.specs.LawsSearch.{Vector, RulesHold}
use Rattle.rules.specs.LawsBoxes.{Lies, Holds, RowsHeld}
use Rattle.rules.proofs.Alls.{all_both, all_front, all_back}

-- ---- each row lies in the sets of each box above it
module _ (d : ℕ) where
  rows_joined : (h : ℕ) (es : List (Entry h)) (a : List ℕ) → length a ≡ d → Below d h es → AllByRecursion (Vector d) (rows_below h es)
      → AllByRecursion (Lies (joined a (map (sets_of h) es))) (rows_below h es)
  rows_joined zero [] a e b s = tt
  rows_joined zero (r ∷ rs) a e b s =
      let p = point r.letters in (
        in_joined_first r.letters (join a p) (map (sets_of zero) rs)
            (in_join_right r.letters a p (e ∙ sym (length_point r.letters ∙ s.0.0)) (in_point r.letters s.0.1)),
        rows_joined zero rs (join a p) (length_join a p ∙ e) tt s.1,
      )
  rows_joined (suc h) [] a e b s = tt
  rows_joined (suc h) (c ∷ cs) a e b s =
      let here = rows_below h c.entries in
      let others = rows_below (suc h) cs in
      let whole : c.sets ≡ around d (map (sets_of h) c.entries) = b.2 in
      let long : length c.sets ≡ d = ap length whole ∙ length_around d (map (sets_of h) c.entries) in
      let inner : AllByRecursion (Lies c.sets) here =
      subst (λ x. AllByRecursion (Lies x) here) (sym whole)
      (rows_joined h c.entries (replicate d 0) (length-replicate d 0) b.3 (all_front (Vector d) here others s)) in
      let wide = joined (join a c.sets) (map (sets_of (suc h)) cs) in
      All-append (Lies wide) here others
      (All-weaker (Lies c.sets) (Lies wide)
      (λ r i. in_joined_first r.letters (join a c.sets) (map (sets_of (suc h)) cs) (in_join_right r.letters a c.sets (e ∙ sym long) i)) here inner)
      (rows_joined (suc h) cs (join a c.sets) (length_join a c.sets ∙ e) b.4 (all_back (Vector d) here others s))

  pub rows_around : (h : ℕ) (es : List (Entry h)) → Below d h es → AllByRecursion (Vector d) (rows_below h es)
      → AllByRecursion (Lies (around d (map (sets_of h) es))) (rows_below h es)
  rows_around h es b s = rows_joined h es (replicate d 0) (length-replicate d 0) b s

  pub below_holds : (h : ℕ) (es : List (Entry h)) → Below d h es → AllByRecursion (Vector d) (rows_below h es) → Holds h es
  below_holds zero es b s = tt
  below_holds (suc h) [] b s = tt
  below_holds (suc h) (c ∷ cs) b s =
      let here = rows_below h c.entries in
      let others = rows_below (suc h) cs in
      let front = all_front (Vector d) here others s in (
        subst (λ x. AllByRecursion (Lies x) here) (sym b.2) (rows_around h c.entries b.3 front),
        below_holds h c.entries b.3 front,
        below_holds (suc h) cs b.4 (all_back (Vector d) here others s),
      )

pub rows_held : RowsHeld
rows_held d t b s = (
  subst (λ x. AllByRecursion (Lies x) (rows_in t)) (sym b.root) (rows_around d t.0 t.1.entries b.below s),
  below_holds d t.0 t.1.entries b.below s,
)

-- ---- each box is one of sets of 64 bits
pub sets_words : (d h : ℕ) (es : List (Entry h)) → Below d h es → AllByRecursion (λ b. words b ≡ true) (map (sets_of h) es)
sets_words d zero [] b = tt
sets_words d zero (r ∷ rs) b = (words_point r.letters, sets_words d zero rs tt)
sets_words d (suc h) [] b = tt
sets_words d (suc h) (c ∷ cs) b = (
  subst (λ x. words x ≡ true) (sym b.2) (words_around d (map (sets_of h) c.entries) (sets_words d h c.entries b.3)),
  sets_words d (suc h) cs b.4,
)

pub row_vector : (d : ℕ) (r : Row) → dimensions d ≡ true → Vector d r → is_vector r.letters ≡ true
row_vector d r h v = and_from (dimensions (length r.letters)) (small r.letters) (ap dimensions v.0 ∙ h) v.1

-- ---- the rule of a measure, at one query
module _ (distances floors : List ℕ → List ℕ → Option ℕ) (rule : FloorRule distances floors) (q : List ℕ) (d : ℕ) (size : dimensions d ≡ true) where
  holds_ruled : (h : ℕ) (es : List (Entry h)) → Below d h es → AllByRecursion (Vector d) (rows_below h es) → Holds h es
      → Ruled (λ r. distances q r.letters) (floors q) h es
  holds_ruled zero es b s u = tt
  holds_ruled (suc h) [] b s u = tt
  holds_ruled (suc h) (c ∷ cs) b s u =
      let here = rows_below h c.entries in
      let others = rows_below (suc h) cs in
      let front = all_front (Vector d) here others s in
      let box : is_box c.sets ≡ true =
      subst (λ x. is_box x ≡ true) (sym b.2) (box_around d (map (sets_of h) c.entries) size (sets_words d h c.entries b.3)) in (
        rule.low q c.sets box,
        all_both (Vector d) (Lies c.sets) (λ r. Under (floors q c.sets) (distances q r.letters))
            (λ r v i. rule.under q r.letters c.sets (row_vector d r size v) box i) here front u.0,
        holds_ruled h c.entries b.3 front u.1,
        holds_ruled (suc h) cs b.4 (all_back (Vector d) here others s) u.2,
      )

pub rules_hold : RulesHold
rules_hold distances floors rule q d t size b s =
    holds_ruled distances floors rule q d size t.0 t.1.entries b.below s (rows_held d t b s).1
