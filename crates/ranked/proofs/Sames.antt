-- Lists with the same elements, each as often.
use Rattle.std.proofs.Common.{◌≡◌, ℕ, suc, List, [], ◌∷◌, ◌++◌, map, length, sum_by, sym, refl, ap, ◌∙◌, subst, arith}
use Rattle.std.specs.List.{ContainsAt as Has, flat_map, AllByRecursion}
use Rattle.std.proofs.ByRecursion.{all-has, all_has_itself}
use Rattle.std.proofs.lemmas.List.{append-nil, append_assoc}
use Rattle.std.proofs.lemmas.List.Sums.{sum_by-cons}
use Rattle.ranked.specs.Same.{Same, none, keep, turn, then}

pub same_refl : {X : Type 0} (xs : List X) → Same xs xs
same_refl [] = none
same_refl (x ∷ xs) = keep (same_refl xs)

pub same_sym : {X : Type 0} {xs ys : List X} → Same xs ys → Same ys xs
same_sym none = none
same_sym (keep s) = keep (same_sym s)
same_sym turn = turn
same_sym (then s t) = then (same_sym t) (same_sym s)

-- equal lists have the same elements
pub same_from : {X : Type 0} {xs ys : List X} → xs ≡ ys → Same xs ys
same_from {X} {xs} {ys} e = subst (λ l. Same xs l) e (same_refl xs)

-- ---- joined by ++
pub same_to_front : {X : Type 0} (xs : List X) (y : X) (ys : List X) → Same (xs ++ (y ∷ ys)) (y ∷ (xs ++ ys))
same_to_front [] y ys = same_refl (y ∷ ys)
same_to_front (x ∷ xs) y ys = then (keep (same_to_front xs y ys)) turn

pub same_after : {X : Type 0} (xs : List X) {ys zs : List X} → Same ys zs → Same (xs ++ ys) (xs ++ zs)
same_after [] s = s
same_after (x ∷ xs) s = keep (same_after xs s)

pub same_swap : {X : Type 0} (xs ys : List X) → Same (xs ++ ys) (ys ++ xs)
same_swap [] ys = same_from (sym (append-nil ys))
same_swap (x ∷ xs) ys = then (keep (same_swap xs ys)) (same_sym (same_to_front ys x xs))

pub same_before : {X : Type 0} {ys zs : List X} (xs : List X) → Same ys zs → Same (ys ++ xs) (zs ++ xs)
same_before {ys = ys} {zs = zs} xs s = then (same_swap ys xs) (then (same_after xs s) (same_swap xs zs))

-- of three lists the first two change places
pub same_rotate : {X : Type 0} (xs ys zs : List X) → Same (xs ++ (ys ++ zs)) (ys ++ (xs ++ zs))
same_rotate xs ys zs =
    then (same_from (sym (append_assoc xs ys zs)))
    (then (same_before zs (same_swap xs ys)) (same_from (append_assoc ys xs zs)))

-- a part k in the middle, and a rest r at the end, come together
pub same_gather : {X : Type 0} (a k b r : List X) → Same ((a ++ (k ++ b)) ++ r) (a ++ ((k ++ r) ++ b))
same_gather a k b r =
    then (same_from (append_assoc a (k ++ b) r ∙ ap (λ l. a ++ l) (append_assoc k b r)))
    (then (same_after a (same_after k (same_swap b r))) (same_from (ap (λ l. a ++ l) (sym (append_assoc k r b)))))

-- the part and the rest are exchanged for others that have the same elements together
pub same_exchange : {X : Type 0} (a b k r x l : List X) → Same (k ++ r) (x ++ l) → Same ((a ++ (k ++ b)) ++ r) ((a ++ (x ++ b)) ++ l)
same_exchange a b k r x l s = then (same_gather a k b r) (then (same_after a (same_before b s)) (same_sym (same_gather a x b l)))

-- ---- what does not turn on the order
pub length_same : {X : Type 0} {xs ys : List X} → Same xs ys → length xs ≡ length ys
length_same none = refl
length_same (keep s) = ap suc (length_same s)
length_same turn = refl
length_same (then s t) = length_same s ∙ length_same t

pub all_same : {X : Type 0} (P : X → Type 0) {xs ys : List X} → Same xs ys → AllByRecursion P xs → AllByRecursion P ys
all_same P none a = tt
all_same P (keep s) a = (a.0, all_same P s a.1)
all_same P turn a = (a.1.0, (a.0, a.1.1))
all_same P (then s t) a = all_same P t (all_same P s a)

pub has_same : {X : Type 0} (x : X) {xs ys : List X} → Same xs ys → Has xs x → Has ys x
has_same x {xs} {ys} s h = all-has (Has ys) xs x (all_same (Has ys) (same_sym s) (all_has_itself ys)) h

pub sum_same : {X : Type 0} (f : X → ℕ) {xs ys : List X} → Same xs ys → sum_by f xs ≡ sum_by f ys
sum_same f none = refl
sum_same f (keep {x = x} {xs = xs} {ys = ys} s) =
    let more = sum_same f s in
    let a = sum_by-cons f x xs in
    let b = sum_by-cons f x ys in
    omega arith
sum_same f (turn {x = x} {y = y} {xs = xs}) =
    let a = sum_by-cons f x (y ∷ xs) in
    let b = sum_by-cons f y xs in
    let c = sum_by-cons f y (x ∷ xs) in
    let d = sum_by-cons f x xs in
    omega arith
sum_same f (then s t) = sum_same f s ∙ sum_same f t

pub same_map : {X Y : Type 0} (f : X → Y) {xs ys : List X} → Same xs ys → Same (map f xs) (map f ys)
same_map f none = none
same_map f (keep s) = keep (same_map f s)
same_map f turn = turn
same_map f (then s t) = then (same_map f s) (same_map f t)

pub same_joined : {X Y : Type 0} (f : X → List Y) {xs ys : List X} → Same xs ys → Same (flat_map f xs) (flat_map f ys)
same_joined f none = none
same_joined f (keep {x = x} s) = same_after (f x) (same_joined f s)
same_joined f (turn {x = x} {y = y} {xs = xs}) = same_rotate (f x) (f y) (flat_map f xs)
same_joined f (then s t) = then (same_joined f s) (same_joined f t)

-- ---- lists of lists
pub joined_append : {X Y : Type 0} (f : X → List Y) (xs ys : List X) → flat_map f (xs ++ ys) ≡ flat_map f xs ++ flat_map f ys
joined_append f [] ys = refl
joined_append f (x ∷ xs) ys = ap (λ l. f x ++ l) (joined_append f xs ys) ∙ sym (append_assoc (f x) (flat_map f xs) (flat_map f ys))
