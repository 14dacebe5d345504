-- What `place` does to a list, for any test of standing before.
use Rattle.std.proofs.Common.{◌≡◌, ℕ, zero, suc, ◌≤◌, Bool, true, false, cond, List, [], ◌∷◌, map, length, take, refl, ap, arith}
use Rattle.std.specs.List.{insert, AllByRecursion}
use Rattle.std.proofs.lemmas.List.{take-take}
use Rattle.ranked.specs.Rank.{place, rank_of}
use Rattle.ranked.specs.Same.{Same, keep, turn, then}
use Rattle.ranked.proofs.Sames.{same_refl}

module _ {X : Type 0} (before : X → X → Bool) where
  pub rank_within : (e : X) (xs : List X) → rank_of before e xs ≤ length xs
  rank_within e [] = omega arith
  rank_within e (x ∷ xs) =
      let more = rank_within e xs in
      elim (before e x) as (λ b. cond b 0 (suc (rank_of before e xs)) ≤ suc (length xs)) [ true ↦ omega arith | false ↦ omega arith ]

  -- the place is where the rank says
  pub place_at_rank : (e : X) (xs : List X) → place before e xs ≡ insert xs (rank_of before e xs) e
  place_at_rank e [] = refl
  place_at_rank e (x ∷ xs) =
      let more = place_at_rank e xs in
      elim (before e x) as (λ b. cond b (e ∷ x ∷ xs) (x ∷ place before e xs) ≡ insert (x ∷ xs) (cond b 0 (suc (rank_of before e xs))) e)
      [ true ↦ refl | false ↦ ap (λ l. x ∷ l) more ]

  pub length_place : (e : X) (xs : List X) → length (place before e xs) ≡ suc (length xs)
  length_place e [] = refl
  length_place e (x ∷ xs) =
      let more = length_place e xs in
      elim (before e x) as (λ b. length (cond b (e ∷ x ∷ xs) (x ∷ place before e xs)) ≡ suc (suc (length xs)))
      [ true ↦ refl | false ↦ ap suc more ]

  pub place_same : (e : X) (xs : List X) → Same (e ∷ xs) (place before e xs)
  place_same e [] = same_refl (e ∷ [])
  place_same e (x ∷ xs) =
      let more = place_same e xs in
      elim (before e x) as (λ b. Same (e ∷ x ∷ xs) (cond b (e ∷ x ∷ xs) (x ∷ place before e xs)))
      [ true ↦ same_refl (e ∷ x ∷ xs) | false ↦ then turn (keep more) ]

  take_cons_cut : (n : ℕ) (x : X) (xs : List X) → take n (x ∷ take n xs) ≡ take n (x ∷ xs)
  take_cons_cut zero x xs = refl
  take_cons_cut (suc n) x xs = ap (λ l. x ∷ l) (take-take n (suc n) xs (omega arith))

  -- what was cut off before does not matter
  pub place_cut : (n : ℕ) (e : X) (xs : List X) → take n (place before e (take n xs)) ≡ take n (place before e xs)
  place_cut zero e xs = refl
  place_cut (suc n) e [] = refl
  place_cut (suc n) e (x ∷ xs) =
      let more = place_cut n e xs in
      elim (before e x) as (λ b. take (suc n) (cond b (e ∷ x ∷ take n xs) (x ∷ place before e (take n xs))) ≡ take (suc n) (cond b (e ∷ x ∷ xs) (x ∷ place before e xs)))
      [ true ↦ ap (λ l. e ∷ l) (take_cons_cut n x xs) | false ↦ ap (λ l. x ∷ l) more ]

  -- an entry that stands before none of a list goes past it
  pub place_past : (n : ℕ) (e : X) (xs : List X) → n ≤ length xs → AllByRecursion (λ x. before e x ≡ false) xs → take n (place before e xs) ≡ take n xs
  place_past zero e xs h all = refl
  place_past (suc n) e [] h all = absurd (let z : suc n ≤ 0 = h in omega arith)
  place_past (suc n) e (x ∷ xs) h all =
      let more = place_past n e xs (omega arith) all.1 in
      rw all.0 (ap (λ l. x ∷ l) more)

-- entries that are read as others, in an order that is read as theirs
pub place_map : {X Y : Type 0} (before : X → X → Bool) (other : Y → Y → Bool) (f : X → Y) → ((x y : X) → before x y ≡ other (f x) (f y))
    → (e : X) (xs : List X) → map f (place before e xs) ≡ place other (f e) (map f xs)
place_map before other f reads e [] = refl
place_map before other f reads e (x ∷ xs) =
    rw (← reads e x)
    (elim (before e x) as (λ b. map f (cond b (e ∷ x ∷ xs) (x ∷ place before e xs)) ≡ cond b (f e ∷ f x ∷ map f xs) (f x ∷ place other (f e) (map f xs)))
    [ true ↦ refl | false ↦ ap (λ l. f x ∷ l) (place_map before other f reads e xs) ])
