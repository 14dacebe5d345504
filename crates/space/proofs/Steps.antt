-- The steps of loops that go through one list or two side by side, and of loops that write a list in place.
use Rattle.std.proofs.Common.{◌≡◌, ℕ, ◌+◌, ◌<◌, ◌≤◌, min, List, [], ◌∷◌, ◌++◌, length, get_or, take, drop, set, sym, ap, ◌∙◌, ap₂, ⊎_elim, arith}
use Rattle.std.proofs.lemmas.Bool.{cases_lt}
use Rattle.std.proofs.lemmas.List.{drop_more, drop_all, take_all, take_more_set, append_assoc}

-- what a function of the rest of a list sees at the next turn
pub one_more : {X Y : Type 0} (f : List X → Y) (xs : List X) (d : X) (i : ℕ) → i < length xs → f (drop i xs) ≡ f (get_or xs i d ∷ drop (i + 1) xs)
one_more f xs d i h = ap f (drop_more xs i d h)

pub one_all : {X Y : Type 0} (f : List X → Y) (xs : List X) (i : ℕ) → length xs ≤ i → f (drop i xs) ≡ f []
one_all f xs i h = ap f (drop_all i xs h)

-- the same of two lists
pub two_more : {Y : Type 0} (f : List ℕ → List ℕ → Y) (xs ys : List ℕ) (i : ℕ) → i < length xs → i < length ys
    → f (drop i xs) (drop i ys) ≡ f (get_or xs i 0 ∷ drop (i + 1) xs) (get_or ys i 0 ∷ drop (i + 1) ys)
two_more f xs ys i h k = ap₂ f (drop_more xs i 0 h) (drop_more ys i 0 k)

pub two_all : {Y : Type 0} (f : List ℕ → List ℕ → Y) (xs ys : List ℕ) (i : ℕ) → length xs ≤ i → length ys ≤ i → f (drop i xs) (drop i ys) ≡ f [] []
two_all f xs ys i h k = ap₂ f (drop_all i xs h) (drop_all i ys k)

-- one element written: what stands before it grows by it
pub write_more : {X : Type 0} (s : List X) (i : ℕ) (x : X) (rest : List X) → i < length s → take (i + 1) (set s i x) ++ rest ≡ take i s ++ (x ∷ rest)
write_more s i x rest h = ap (λ t. t ++ rest) (take_more_set s i x h) ∙ append_assoc (take i s) (x ∷ []) rest

-- the first n of a list that is no longer than cap
pub take_min : {X : Type 0} (s : List X) (n cap : ℕ) → length s ≡ cap → take (min n cap) s ≡ take n s
take_min s n cap e =
    ⊎_elim (λ (h : n < cap). ap (λ j. take j s) (let z : min n cap ≡ n = omega arith in z))
    (λ (h : cap ≤ n). take_all (min n cap) s (omega arith) ∙ sym (take_all n s (omega arith))) (cases_lt n cap)
