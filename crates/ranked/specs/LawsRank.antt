-- What the ranking of a list is, said of the list and not of how the ranking is made.
use Rattle.std.specs.Prelude.{◌≡◌, ℕ, Bool, List, [], take}
use Rattle.ranked.specs.Rank.{InRank, ranked, keep_first}
use Rattle.ranked.specs.Same.{Same}

-- The ranking of a list is in rank, has the same elements, and is the only such list. Entries that come one after another into a list that
-- is cut off at cap each time leave the first cap of the ranking of all, whatever order they come in.
pub record RankingStands {X : Type 0} (before : X → X → Bool) : Type 0 where
  pub in_rank : (xs : List X) → InRank before (ranked before xs)
  pub same : (xs : List X) → Same xs (ranked before xs)
  pub only : (xs ys : List X) → InRank before ys → Same xs ys → ys ≡ ranked before xs
  pub front : (cap : ℕ) (xs : List X) → keep_first before cap [] xs ≡ take cap (ranked before xs)
  pub any_order : (cap : ℕ) (kept xs ys : List X) → Same xs ys → keep_first before cap kept xs ≡ keep_first before cap kept ys
