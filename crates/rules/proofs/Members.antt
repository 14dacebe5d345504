-- Which elements a list has, and when their keys are apart.
use Rattle.std.proofs.Common.{◌≡◌, ℕ, zero, suc, ◌<◌, ◌≤◌, ◌⊎◌, List, [], ◌∷◌, length, get_or, sym, refl, inl, inr, arith}
use Rattle.std.specs.List.{ContainsAt as Has, AllByRecursion}
use Rattle.std.proofs.ByRecursion.{All-get_or, All-from_get_or}
use Rattle.ranked.specs.Same.{Same, none, keep, turn, then}
use Rattle.ranked.proofs.Sames.{all_same}

module _ {X : Type 0} where
  pub has_first : (x : X) (xs : List X) → Has (x ∷ xs) x
  has_first x xs = (0, omega arith, (λ d. refl))

  pub has_later : (x y : X) (xs : List X) → Has xs y → Has (x ∷ xs) y
  has_later x y xs h = (suc h.0, omega (arith, h.1), h.2)

  pub has_cases : (x y : X) (xs : List X) → Has (x ∷ xs) y → (x ≡ y) ⊎ Has xs y
  has_cases x y xs h = go h.0 h.1 h.2
    where
      go : (k : ℕ) → k < suc (length xs) → ((d : X) → get_or (x ∷ xs) k d ≡ y) → (x ≡ y) ⊎ Has xs y
      go zero l at = inl (at x)
      go (suc k) l at = inr (k, omega arith, at)

  pub has_none : (y : X) → Has {X = X} [] y → ⊥
  has_none y h = let l : h.0 < 0 = h.1 in omega arith

-- no two elements have one key
abbrev pub Apart : {X : Type 0} → (X → ℕ) → List X → Type 0
Apart key [] = Unit {0}
Apart key (x ∷ xs) = AllByRecursion (λ y. key x ≡ key y → ⊥) xs × Apart key xs

module _ {X : Type 0} (key : X → ℕ) where
  pub apart_same : {xs ys : List X} → Same xs ys → Apart key xs → Apart key ys
  apart_same none a = tt
  apart_same (keep {x = x} s) a = (all_same (λ y. key x ≡ key y → ⊥) s a.0, apart_same s a.1)
  apart_same turn a = (((λ e. a.0.0 (sym e)), a.1.0), (a.0.1, a.1.1))
  apart_same (then s t) a = apart_same t (apart_same s a)

  pub apart_from_at : (xs : List X) → ((i j : ℕ) (d : X) → i < j → j < length xs → key (get_or xs i d) ≡ key (get_or xs j d) → ⊥) → Apart key xs
  apart_from_at [] h = tt
  apart_from_at (x ∷ xs) h = (
    All-from_get_or (λ y. key x ≡ key y → ⊥) xs x (λ i l. h 0 (suc i) x (omega arith) (omega arith)),
    apart_from_at xs (λ i j d p q. h (suc i) (suc j) d (omega arith) (omega arith)),
  )

  pub apart_at : (xs : List X) → Apart key xs → (i j : ℕ) (d : X) → i < j → j < length xs → key (get_or xs i d) ≡ key (get_or xs j d) → ⊥
  apart_at [] a i j d h l e = absurd (let z : suc j ≤ 0 = l in omega arith)
  apart_at (x ∷ xs) a i zero d h l e = absurd (let z : suc i ≤ 0 = h in omega arith)
  apart_at (x ∷ xs) a zero (suc j) d h l e = All-get_or (λ y. key x ≡ key y → ⊥) xs j d (omega arith) a.0 e
  apart_at (x ∷ xs) a (suc i) (suc j) d h l e = apart_at xs a.1 i j d (omega arith) (omega arith) e
