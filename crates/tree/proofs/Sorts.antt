-- Clips sorted by their numbers.
use Rattle.std.proofs.Common.{◌≡◌, ℕ, zero, suc, ◌<◌, ◌≤◌, Bool, true, false, ltb, leb, List, [], ◌∷◌, ◌++◌, length, get_or, take, drop, set, Some, sym, refl, ap, ◌∙◌, subst, arith}
use Rattle.std.specs.List.{swap}
use Rattle.std.specs.List.Sorted.{IsNonDecreasingBy, IsPermutation}
use Rattle.std.proofs.ByRecursion.{All-from_get_or, All-map}
use Rattle.std.proofs.lemmas.Bool.{le-ltb, leb-true}
use Rattle.std.proofs.lemmas.Bool.Decides.{nat_tests}
use Rattle.std.proofs.lemmas.List.{drop_at, length-take-le, take_at}
use Rattle.std.proofs.lemmas.List.Sorted.{IsPermutation-keeps, length_permutation}
use Rattle.space.specs.Boxes.{given}
use Rattle.space.specs.Row.{Row, stored_row, stored_rows}
use Rattle.space.specs.declared.clip.StoredClip.{StoredClip}
use Rattle.ranked.specs.Rank.{InRank}
use Rattle.ranked.specs.Same.{Same, keep, turn, then}
use Rattle.ranked.proofs.Sames.{same_map, same_refl}
use Rattle.rules.specs.Finds.{Once}
use Rattle.rules.specs.Rows.{lower, rising}
use Rattle.rules.specs.Tree.{rows_in}
use Rattle.rules.proofs.Members.{apart_from_at, apart_same}
use Rattle.rules.proofs.Rankings.{number}
use Rattle.rules.proofs.Rises.{rises_from_rank}
use Rattle.rules.proofs.Risings.{rising_only}
use Rattle.tree.specs.declared.index.Index.{Index}
use Rattle.tree.specs.Nodes.{no_clip}
use Rattle.tree.specs.Listing.{Listed}
use Rattle.tree.specs.Seen.{plan_of, tree_in}
use Rattle.tree.proofs.Wholes.{whole_of}

-- ---- what a sort moves
module _ {X : Type 0} where
  -- an element changes places with one before the list
  same_set : (xs : List X) (i : ℕ) (x d : X) → i < length xs → Same (x ∷ xs) (get_or xs i d ∷ set xs i x)
  same_set [] i x d l = absurd (omega arith)
  same_set (y ∷ ys) zero x d l = turn
  same_set (y ∷ ys) (suc i) x d l = then turn (then (keep (same_set ys i x d (omega arith))) turn)

  -- two elements change places
  same_sets : (xs : List X) (i j : ℕ) (d : X) → i < length xs → j < length xs → Same xs (set (set xs i (get_or xs j d)) j (get_or xs i d))
  same_sets [] i j d l m = absurd (omega arith)
  same_sets (y ∷ ys) zero zero d l m = same_refl (y ∷ ys)
  same_sets (y ∷ ys) zero (suc j) d l m = same_set ys j y d (omega arith)
  same_sets (y ∷ ys) (suc i) zero d l m = same_set ys i y d (omega arith)
  same_sets (y ∷ ys) (suc i) (suc j) d l m = keep (same_sets ys i j d (omega arith) (omega arith))

  same_swapped : (xs : List X) (i j : ℕ) → i < length xs → j < length xs → Same xs (swap xs i j)
  same_swapped [] i j l m = absurd (omega arith)
  same_swapped (x ∷ xs) i j l m = same_sets (x ∷ xs) i j x l m

  same_moved : (xs ys : List X) → IsPermutation xs ys → Same xs ys
  same_moved xs ys p = IsPermutation-keeps xs (Same xs) (same_refl xs) (λ l i j h k s. then s (same_swapped l i j h k)) ys p

-- ---- in rising number
lower_tie : (x y : Row) → lower x y ≡ false → lower y x ≡ false → x.number ≡ y.number
lower_tie x y h k = grind (arith, nat_tests)

lower_in_rank : (d : ℕ) (C : List StoredClip) → IsNonDecreasingBy (λ c. c.number) C → InRank lower (stored_rows d C)
lower_in_rank d [] up = tt
lower_in_rank d (c ∷ cs) up = (
  All-map (λ r. lower r (stored_row d c) ≡ false) (stored_row d) cs
      (All-from_get_or (λ y. ltb y.number c.number ≡ false) cs no_clip
      (λ i l. le-ltb (get_or cs i no_clip).number c.number (up 0 (suc i) no_clip (omega arith) (omega arith)))),
  lower_in_rank d cs (λ i j e h l. up (suc i) (suc j) e (omega arith) (omega arith)),
)

-- clips sorted by their numbers are in rising number, if no number stands twice
sorted_rising : (d : ℕ) (A B : List StoredClip) → IsPermutation A B → IsNonDecreasingBy (λ c. c.number) B
    → Once (stored_rows d A) → stored_rows d B ≡ rising (stored_rows d A)
sorted_rising d A B moved up once =
    let same = same_map (stored_row d) (same_moved A B moved) in
    rising_only (stored_rows d A) (stored_rows d B) once same
    (rises_from_rank lower number lower_tie (stored_rows d B) (lower_in_rank d B up) (apart_same number same (apart_from_at number (stored_rows d A) once)))

-- ---- the front of a list sorted
given_some : (b : Bool) (k n : ℕ) → Some n ≡ given b k → (b ≡ true) × (n ≡ k)
given_some true k n e = (refl, cc)
given_some false k n e = let z : ◌≡◌ {A = ℕ} 0 1 = cc in absurd (omega arith)

-- there is room for as many clips as were listed
listed_room : (x : Index) (rows : List Row) (A B : List StoredClip) (n : ℕ) → Listed x rows A B (Some n) → n ≤ length A
listed_room x rows A B n p =
    let k = length (rows_in (tree_in x)) in
    let g = given_some (leb k (length A)) k n p.count in
    omega (arith, g.1, leb-true k (length A) g.0)

pub listed_rising : (x : Index) (A B S : List StoredClip) (n : ℕ) → length B ≡ length A → Listed x (rows_in (tree_in x)) A B (Some n)
    → IsPermutation (take n B) S → IsNonDecreasingBy (λ c. c.number) S → Listed x (rising (rows_in (tree_in x))) A (S ++ drop n B) (Some n)
listed_rising x A B S n long p moved up =
    let d = length (plan_of x) in
    let s : length S ≡ n = length_permutation (take n B) S moved ∙ length-take-le n B (omega (arith, listed_room x (rows_in (tree_in x)) A B n p)) in
    record {
      count = p.count;
      front = record {
        clips = ap (stored_rows d) (take_at S (drop n B) n s)
            ∙ sorted_rising d (take n B) S moved up (subst Once (sym p.front.clips) (whole_of x).once) ∙ ap rising p.front.clips;
        rest = drop_at S (drop n B) n s ∙ p.front.rest;
      };
    }
