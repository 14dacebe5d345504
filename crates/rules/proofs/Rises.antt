-- Lists that rise: each element stands before every one to its right.
use Rattle.std.proofs.Common.{◌≡◌, ℕ, zero, suc, ◌<◌, ◌≤◌, Bool, true, false, cond, ◌⊎◌, List, [], ◌∷◌, length, get_or, take, sym, refl, ap, ◌∙◌, subst, ap₂, inl, inr, arith}
use Rattle.std.specs.List.{ContainsAt as Has, AllByRecursion}
use Rattle.std.proofs.ByRecursion.{All-get_or, All-from_get_or, All-take, all-has}
use Rattle.std.proofs.lemmas.Bool.{both_ways}
use Rattle.ranked.specs.Rank.{Order, InRank, place, ranked}
use Rattle.ranked.proofs.Ranks.{not_self}
use Rattle.rules.proofs.Members.{has_first, has_later, has_cases, has_none, Apart}

abbrev pub Rises : {X : Type 0} → (X → X → Bool) → List X → Type 0
Rises before [] = Unit {0}
Rises before (x ∷ xs) = AllByRecursion (λ y. before x y ≡ true) xs × Rises before xs

module _ {X : Type 0} (before : X → X → Bool) where
  pub rises_at : (xs : List X) (i j : ℕ) (d : X) → Rises before xs → i < j → j < length xs → before (get_or xs i d) (get_or xs j d) ≡ true
  rises_at [] i j d r h l = absurd (let z : suc j ≤ 0 = l in omega arith)
  rises_at (x ∷ xs) i zero d r h l = absurd (let z : suc i ≤ 0 = h in omega arith)
  rises_at (x ∷ xs) zero (suc j) d r h l = All-get_or (λ y. before x y ≡ true) xs j d (omega arith) r.0
  rises_at (x ∷ xs) (suc i) (suc j) d r h l = rises_at xs i j d r.1 (omega arith) (omega arith)

  pub rises_from_at : (d : X) (xs : List X) → ((i j : ℕ) (e : X) → i < j → j < length xs → before (get_or xs i e) (get_or xs j e) ≡ true) → Rises before xs
  rises_from_at d [] h = tt
  rises_from_at d (x ∷ xs) h = (
    All-from_get_or (λ y. before x y ≡ true) xs d (λ i l. h 0 (suc i) d (omega arith) (omega arith)),
    rises_from_at d xs (λ i j e p q. h (suc i) (suc j) e (omega arith) (omega arith)),
  )

  pub rises_take : (n : ℕ) (xs : List X) → Rises before xs → Rises before (take n xs)
  rises_take zero xs r = tt
  rises_take (suc n) [] r = tt
  rises_take (suc n) (x ∷ xs) r = (All-take (λ y. before x y ≡ true) n xs r.0, rises_take n xs r.1)

  -- a list in rank rises where two that tie have one key, and no two elements have one key
  pub rises_from_rank : (key : X → ℕ) → ((x y : X) → before x y ≡ false → before y x ≡ false → key x ≡ key y)
      → (xs : List X) → InRank before xs → Apart key xs → Rises before xs
  rises_from_rank key tie [] r a = tt
  rises_from_rank key tie (x ∷ xs) r a = (go xs r.0 a.0, rises_from_rank key tie xs r.1 a.1)
    where
      one : (y : X) → before y x ≡ false → (key x ≡ key y → ⊥) → (t : Bool) → before x y ≡ t → before x y ≡ true
      one y p q true e = e
      one y p q false e = absurd (q (tie x y e p))

      go : (ys : List X) → AllByRecursion (λ y. before y x ≡ false) ys → AllByRecursion (λ y. key x ≡ key y → ⊥) ys → AllByRecursion (λ y. before x y ≡ true) ys
      go [] p q = tt
      go (y ∷ ys) p q = (one y p.0 q.0 (before x y) refl, go ys p.1 q.1)

  -- a list that rises is its own ranking
  pub rises_is : (xs : List X) → Rises before xs → ranked before xs ≡ xs
  rises_is [] r = refl
  rises_is (x ∷ xs) r = ap (place before x) (rises_is xs r.1) ∙ front xs r.0
    where
      front : (ys : List X) → AllByRecursion (λ y. before x y ≡ true) ys → place before x ys ≡ x ∷ ys
      front [] a = refl
      front (y ∷ ys) a = ap (λ t. cond t (x ∷ y ∷ ys) (y ∷ place before x ys)) a.0

  -- y stands in the list, or behind a list of k elements
  abbrev pub OrBehind : ℕ → List X → X → Type 0
  OrBehind k xs y = Has xs y ⊎ ((length xs ≡ k) × AllByRecursion (λ x. before x y ≡ true) xs)

  -- each element of a list that rises stands in its front, or behind it
  pub front_or_behind : (k : ℕ) (xs : List X) (y : X) → Rises before xs → Has xs y → OrBehind k (take k xs) y
  front_or_behind zero xs y r h = inr (refl, tt)
  front_or_behind (suc k) [] y r h = absurd (has_none y h)
  front_or_behind (suc k) (x ∷ xs) y r h =
      elim (has_cases x y xs h) [
        | inl e ↦ inl (subst (Has (x ∷ take k xs)) e (has_first x (take k xs)))
        | inr m ↦ elim (front_or_behind k xs y r.1 m) [
          | inl a ↦ inl (has_later x y (take k xs) a)
          | inr b ↦ inr (ap suc b.0, (all-has (λ z. before x z ≡ true) xs y r.0 m, b.1))
        ]
      ]

-- ---- no other list that rises has this of the elements
module _ {X : Type 0} (before : X → X → Bool) (order : Order before) where
  not_both : (x y : X) → before x y ≡ true → before y x ≡ true → ⊥
  not_both x y p q = both_ways (before y x) (order.one_way x y p) q

  not_equal : (x y : X) → before x y ≡ true → x ≡ y → ⊥
  not_equal x y p e = both_ways (before x x) (not_self before order x) (subst (λ z. before x z ≡ true) (sym e) p)

  heads : (k : ℕ) (x : X) (xs : List X) (y : X) (ys : List X) → Rises before (x ∷ xs) → Rises before (y ∷ ys) → Has (y ∷ ys) x → OrBehind before k (x ∷ xs) y → x ≡ y
  heads k x xs y ys p q h b =
      elim (has_cases y x ys h) [
        | inl e ↦ sym e
        | inr m ↦
            let back : before y x ≡ true = all-has (λ z. before y z ≡ true) ys x q.0 m in
            elim b [
              | inl n ↦ elim (has_cases x y xs n) [
                | inl e ↦ e
                | inr l ↦ absurd (not_both x y (all-has (λ z. before x z ≡ true) xs y p.0 l) back)
              ]
              | inr c ↦ absurd (not_both x y c.1.0 back)
            ]
      ]

  -- what is not the first is among the others
  others : (x y : X) (ys : List X) → before x y ≡ true → Has (x ∷ ys) y → Has ys y
  others x y ys p h = elim (has_cases x y ys h) [ inl e ↦ absurd (not_equal x y p e) | inr m ↦ m ]

  others_or : (k : ℕ) (x y : X) (xs : List X) → before x y ≡ true → OrBehind before (suc k) (x ∷ xs) y → OrBehind before k xs y
  others_or k x y xs p b = elim b [ inl h ↦ inl (others x y xs p h) | inr c ↦ let n = c.0 in inr (omega arith, c.1.1) ]

  all_others : (x : X) (ys zs : List X) → AllByRecursion (λ z. before x z ≡ true) zs → AllByRecursion (Has (x ∷ ys)) zs → AllByRecursion (Has ys) zs
  all_others x ys [] p h = tt
  all_others x ys (z ∷ zs) p h = (others x z ys p.0 h.0, all_others x ys zs p.1 h.1)

  pub front_only : (k : ℕ) (xs ys : List X) → Rises before xs → Rises before ys → AllByRecursion (Has ys) xs → ((y : X) → Has ys y → OrBehind before k xs y) → length xs ≤ k → xs ≡ take k ys
  front_only zero [] ys p q h o l = refl
  front_only zero (x ∷ xs) ys p q h o l = absurd (omega arith)
  front_only (suc k) [] [] p q h o l = refl
  front_only (suc k) (x ∷ xs) [] p q h o l = absurd (has_none x h.0)
  front_only (suc k) [] (y ∷ ys) p q h o l =
      absurd (elim (o y (has_first y ys)) [ inl m ↦ has_none y m | inr c ↦ let n = c.0 in omega arith ])
  front_only (suc k) (x ∷ xs) (y ∷ ys) p q h o l =
      let e = heads (suc k) x xs y ys p q h.0 (o y (has_first y ys)) in
      let h' : AllByRecursion (Has (x ∷ ys)) xs = subst (λ z. AllByRecursion (Has (z ∷ ys)) xs) (sym e) h.1 in
      ap₂ (λ z zs. z ∷ zs) e
      (front_only k xs ys p.1 q.1 (all_others x ys xs p.0 h')
      (λ z m. others_or k x z xs (subst (λ w. before w z ≡ true) (sym e) (all-has (λ w. before y w ≡ true) ys z q.0 m)) (o z (has_later y z ys m)))
      (omega arith))
