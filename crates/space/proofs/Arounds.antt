-- The smallest box around some boxes, and the vectors in it.
use Rattle.std.proofs.Common.{◌≡◌, ℕ, zero, suc, ◌<◌, Bool, true, false, ◌||◌, leb, List, [], ◌∷◌, ◌++◌, length, get_or, replicate, sym, refl, ap, ◌∙◌, ap₂, arith}
use lib.Bits.{bit_or}
use Rattle.std.proofs.Math.Bool.{or_assoc}
use Rattle.std.specs.List.{AllByRecursion}
use Rattle.std.proofs.lemmas.List.{length-replicate, get_or-replicate, take_all, drop_all, append-nil}
use Rattle.std.proofs.lemmas.Bool.{and_parts, and_from, or_left, or_right, leb-true}
use Rattle.space.specs.Boxes.{has, in_box, small, join, only, point, joined, around}
use Rattle.space.specs.LawsBoxes.{BothLetters, occurs, AroundExact, InAround, InPoint}
use Rattle.space.proofs.Sets.{union_has, none_has, only_has, pointed}

pub length_join : (a b : List ℕ) → length (join a b) ≡ length a
length_join [] b = refl
length_join (m ∷ a) [] = refl
length_join (m ∷ a) (n ∷ b) = ap suc (length_join a b)

pub length_joined : (a : List ℕ) (bs : List (List ℕ)) → length (joined a bs) ≡ length a
length_joined a [] = refl
length_joined a (b ∷ bs) = length_joined (join a b) bs ∙ length_join a b

pub length_around : (d : ℕ) (bs : List (List ℕ)) → length (around d bs) ≡ d
length_around d bs = length_joined (replicate d 0) bs ∙ length-replicate d 0

pub get_or_join : (a b : List ℕ) (i : ℕ) → i < length a → i < length b → get_or (join a b) i 0 ≡ bit_or (get_or a i 0) (get_or b i 0)
get_or_join [] b i h k = absurd (omega arith)
get_or_join (m ∷ a) [] i h k = absurd (omega arith)
get_or_join (m ∷ a) (n ∷ b) zero h k = refl
get_or_join (m ∷ a) (n ∷ b) (suc i) h k = get_or_join a b i (omega arith) (omega arith)

-- a dimension of the join has the letters of the one or the other
pub join_letters : (a b : List ℕ) → BothLetters a b (join a b)
join_letters a b i l h k = ap (λ m. has m l) (get_or_join a b i h k) ∙ union_has (get_or a i 0) (get_or b i 0) l

pub joined_has : (d : ℕ) (a : List ℕ) (bs : List (List ℕ)) (i l : ℕ) → length a ≡ d → AllByRecursion (λ b. length b ≡ d) bs → i < d
    → has (get_or (joined a bs) i 0) l ≡ (has (get_or a i 0) l || occurs i l bs)
joined_has d a [] i l e f h = go (has (get_or a i 0) l)
  where
    go : (t : Bool) → t ≡ (t || false)
    go true = refl
    go false = refl
joined_has d a (b ∷ bs) i l e f h =
    joined_has d (join a b) bs i l (length_join a b ∙ e) f.1 h
    ∙ ap (λ t. t || occurs i l bs) (join_letters a b i l (omega arith) (let k = f.0 in omega arith))
    ∙ or_assoc (has (get_or a i 0) l) (has (get_or b i 0) l) (occurs i l bs)

pub around_exact : AroundExact
around_exact d bs f = (
  length_around d bs,
  (λ i l h. joined_has d (replicate d 0) bs i l (length-replicate d 0) f h
      ∙ ap (λ m. has m l || occurs i l bs) (get_or-replicate d i 0 0 h) ∙ ap (λ t. t || occurs i l bs) (none_has l)),
)

pub in_join_left : (v a b : List ℕ) → in_box v a ≡ true → in_box v (join a b) ≡ true
in_join_left [] [] b h = refl
in_join_left [] (m ∷ a) b h = absurd (let z : ◌≡◌ {A = ℕ} 0 1 = cc in omega arith)
in_join_left (l ∷ v) [] b h = h
in_join_left (l ∷ v) (m ∷ a) [] h = h
in_join_left (l ∷ v) (m ∷ a) (n ∷ b) h =
    let p = and_parts (has m l) (in_box v a) h in
    and_from (has (bit_or m n) l) (in_box v (join a b)) (union_has m n l ∙ or_left (has m l) (has n l) p.0) (in_join_left v a b p.1)

pub in_join_right : (v a b : List ℕ) → length a ≡ length b → in_box v b ≡ true → in_box v (join a b) ≡ true
in_join_right v [] [] e h = h
in_join_right v [] (n ∷ b) e h = absurd (omega arith)
in_join_right v (m ∷ a) [] e h = absurd (omega arith)
in_join_right [] (m ∷ a) (n ∷ b) e h = h
in_join_right (l ∷ v) (m ∷ a) (n ∷ b) e h =
    let p = and_parts (has n l) (in_box v b) h in
    and_from (has (bit_or m n) l) (in_box v (join a b)) (union_has m n l ∙ or_right (has m l) (has n l) p.0) (in_join_right v a b (omega arith) p.1)

pub in_joined_first : (v a : List ℕ) (bs : List (List ℕ)) → in_box v a ≡ true → in_box v (joined a bs) ≡ true
in_joined_first v a [] h = h
in_joined_first v a (b ∷ bs) h = in_joined_first v (join a b) bs (in_join_left v a b h)

pub in_joined : (d : ℕ) (v a : List ℕ) (bs : List (List ℕ)) (k : ℕ) → length a ≡ d → AllByRecursion (λ b. length b ≡ d) bs → k < length bs → in_box v (get_or bs k []) ≡ true → in_box v (joined a bs) ≡ true
in_joined d v a [] k e f l h = absurd (omega arith)
in_joined d v a (b ∷ bs) zero e f l h = in_joined_first v (join a b) bs (in_join_right v a b (e ∙ sym f.0) h)
in_joined d v a (b ∷ bs) (suc k) e f l h = in_joined d v (join a b) bs k (length_join a b ∙ e) f.1 (omega arith) h

pub in_around : InAround
in_around d bs v k f l h = in_joined d v (replicate d 0) bs k (length-replicate d 0) f l h

-- a vector is in its own box
pub in_point : InPoint
in_point [] h = refl
in_point (l ∷ v) h =
    let p = and_parts (leb l 63) (small v) h in
    let k = leb-true l 63 p.0 in
    and_from (has (only l) l) (in_box v (point v)) (only_has l (omega arith)) (in_point v p.1)

pub length_point : (v : List ℕ) → length (point v) ≡ length v
length_point [] = refl
length_point (l ∷ v) = ap suc (length_point v)

-- the box of a vector, written over as many sets
pub pointed_is : (s v : List ℕ) → length s ≡ length v → pointed s v ≡ point v
pointed_is s v e =
    let n : length (point v) ≡ length v = length_point v in
    ap₂ (λ x y. x ++ y) (take_all (length s) (point v) (omega arith)) (drop_all (length (point v)) s (omega arith)) ∙ append-nil (point v)
