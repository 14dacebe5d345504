-- What holds of each element, of lists that are joined or taken apart.
use Rattle.std.proofs.Common.{List, [], ◌∷◌, ◌++◌}
use Rattle.std.specs.List.{flat_map, AllByRecursion}
use Rattle.std.proofs.ByRecursion.{All-append}
use Rattle.ranked.specs.Same.{Same}
use Rattle.ranked.proofs.Sames.{same_sym, all_same}

pub all_joined : {X Y : Type 0} (P : Y → Type 0) (f : X → List Y) (xs : List X) → AllByRecursion (λ x. AllByRecursion P (f x)) xs → AllByRecursion P (flat_map f xs)
all_joined P f [] a = tt
all_joined P f (x ∷ xs) a = All-append P (f x) (flat_map f xs) a.0 (all_joined P f xs a.1)

-- what two facts give of each element
pub all_both : {X : Type 0} (P Q R : X → Type 0) → ((x : X) → P x → Q x → R x) → (xs : List X) → AllByRecursion P xs → AllByRecursion Q xs → AllByRecursion R xs
all_both P Q R f [] a b = tt
all_both P Q R f (x ∷ xs) a b = (f x a.0 b.0, all_both P Q R f xs a.1 b.1)

pub all_front : {X : Type 0} (P : X → Type 0) (xs ys : List X) → AllByRecursion P (xs ++ ys) → AllByRecursion P xs
all_front P [] ys a = tt
all_front P (x ∷ xs) ys a = (a.0, all_front P xs ys a.1)

pub all_back : {X : Type 0} (P : X → Type 0) (xs ys : List X) → AllByRecursion P (xs ++ ys) → AllByRecursion P ys
all_back P [] ys a = a
all_back P (x ∷ xs) ys a = all_back P xs ys a.1

-- of the elements of two lists together, in any order
pub all_together : {X : Type 0} (P : X → Type 0) (xs ys : List X) {zs : List X} → Same zs (xs ++ ys) → AllByRecursion P xs → AllByRecursion P ys → AllByRecursion P zs
all_together P xs ys s a b = all_same P (same_sym s) (All-append P xs ys a b)
