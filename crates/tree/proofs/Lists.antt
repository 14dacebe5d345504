-- Lists, with nothing of the catalogue.
use Rattle.std.proofs.Common.{◌≡◌, ℕ, ◌+◌, ◌-◌, ◌<◌, ◌≤◌, suc, Bool, true, false, List, [], ◌∷◌, ◌++◌, map, length, get_or, take, drop, set, sym, refl, ap, ◌∙◌, ap₂, add-one, arith}
use mathlib.Core.Bool.{beq}
use Rattle.rules.specs.Division.{alike}
use borrow.Rule.Slice.PartMut.{put_mid}
use Rattle.std.proofs.Math.Seq.{take-append_seam}
use Rattle.std.proofs.lemmas.Slice.{take-put_mid}
use Rattle.std.proofs.lemmas.List.{drop-drop, drop-take, take-take, length-take-le, length-append, length-drop, length-take, append_assoc, take_more, take_more_set, map_push}

pub map_map : {X Y Z : Type 0} (f : Y → Z) (g : X → Y) (xs : List X) → map f (map g xs) ≡ map (λ x. f (g x)) xs
map_map f g [] = refl
map_map f g (x ∷ xs) = ap (λ r. f (g x) ∷ r) (map_map f g xs)

pub map_same : {X Y : Type 0} (f g : X → Y) → ((x : X) → f x ≡ g x) → (xs : List X) → map f xs ≡ map g xs
map_same f g h [] = refl
map_same f g h (x ∷ xs) = ap₂ (λ y ys. y ∷ ys) (h x) (map_same f g h xs)

-- a loop that writes at each place what f takes to g of the entry there
pub map_more_set : {X Y B : Type 0} (f : B → Y) (g : X → Y) (r : List B) (es : List X) (i : ℕ) (b : B) (x : X)
    → i < length r → i < length es → map f (take i r) ≡ map g (take i es) → f b ≡ g (get_or es i x)
    → map f (take (i + 1) (set r i b)) ≡ map g (take (i + 1) es)
map_more_set f g r es i b x l m e p =
    ap (map f) (take_more_set r i b l) ∙ map_push f (take i r) b ∙ ap (λ z. z ++ f b ∷ []) e ∙ ap (λ z. map g (take i es) ++ z ∷ []) p
    ∙ sym (map_push g (take i es) (get_or es i x)) ∙ ap (map g) (sym (take_more es i x m))

pub alike_beq : (t w : Bool) → beq t w ≡ alike w t
alike_beq true true = refl
alike_beq true false = refl
alike_beq false true = refl
alike_beq false false = refl

-- of the first n entries the one at p, put behind the others by a rotation, and left out
pub rotated_out : {X : Type 0} (all ys : List X) (n p : ℕ) → p < n → n ≤ length all → let part = take (n - p) (drop p all) in ys ≡ drop 1 part ++ take 1 part
    → take (n - 1) (put_mid p (n - p) all ys) ≡ take p (take n all) ++ drop (suc p) (take n all)
rotated_out all ys n p l fits turned =
    let es = take n all in
    let size = length-take-le n all fits in
    let W = take p es ++ drop (suc p) es in
    let sum : p + (n - p) ≡ n = omega arith in
    let part : take (n - p) (drop p all) ≡ drop p es = sym (drop-take p (n - p) all) ∙ ap (λ m. drop p (take m all)) sum in
    let z = take 1 (drop p es) in
    let y : ys ≡ drop (suc p) es ++ z = turned ∙ ap (λ xs. drop 1 xs ++ take 1 xs) part ∙ ap (λ xs. xs ++ z) (drop-drop 1 p es ∙ ap (λ n. drop n es) (add-one p)) in
    let many : length ys ≡ n - p = ap length y ∙ length-append (drop (suc p) es) z ∙ omega (arith, length-drop (suc p) es, length-take 1 (drop p es), length-drop p es, size) in
    let whole : take n (put_mid p (n - p) all ys) ≡ W ++ z =
    take-put_mid p (n - p) all ys n (omega arith) (omega arith) ∙ ap₂ (λ x y. x ++ y) (sym (take-take p n all (omega arith))) y ∙ sym (append_assoc (take p es) (drop (suc p) es) z) in
    let w : n - 1 ≡ length W = omega (arith, length-append (take p es) (drop (suc p) es), length-take p es, length-drop (suc p) es, size) in
    sym (take-take (n - 1) n (put_mid p (n - p) all ys) (omega arith)) ∙ ap (take (n - 1)) whole ∙ ap (λ m. take m (W ++ z)) w ∙ take-append_seam W z
