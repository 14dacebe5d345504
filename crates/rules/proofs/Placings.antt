-- Entries that come one by one into a list in rank.
use Rattle.std.proofs.Common.{◌≡◌, Bool, List, [], ◌∷◌, ◌++◌, refl}
use Rattle.ranked.specs.Rank.{place, Order, InRank}
use Rattle.ranked.specs.Same.{Same, then}
use Rattle.ranked.proofs.Sames.{same_refl, same_sym, same_to_front, same_after}
use Rattle.ranked.proofs.Places.{place_same}
use Rattle.ranked.proofs.Ranks.{place_in_rank}
use Rattle.rules.specs.Machine.{ranked_all}

module _ {X : Type 0} (before : X → X → Bool) where
  pub ranked_all_same : (xs l : List X) → Same (ranked_all before xs l) (xs ++ l)
  ranked_all_same [] l = same_refl l
  ranked_all_same (x ∷ xs) l =
      then (ranked_all_same xs (place before x l)) (then (same_after xs (same_sym (place_same before x l))) (same_to_front xs x l))

  pub ranked_all_append : (xs ys l : List X) → ranked_all before (xs ++ ys) l ≡ ranked_all before ys (ranked_all before xs l)
  ranked_all_append [] ys l = refl
  ranked_all_append (x ∷ xs) ys l = ranked_all_append xs ys (place before x l)

  pub ranked_all_in_rank : Order before → (xs l : List X) → InRank before l → InRank before (ranked_all before xs l)
  ranked_all_in_rank order [] l h = h
  ranked_all_in_rank order (x ∷ xs) l h = ranked_all_in_rank order xs (place before x l) (place_in_rank before order x l h)
