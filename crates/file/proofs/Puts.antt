-- Bytes written one after the other.
use Rattle.std.proofs.Common.{◌≡◌, ℕ, ◌+◌, ◌-◌, ◌≤◌, List, [], ◌++◌, length, take, drop, sym, ap, ◌∙◌, ap₂, arith}
use borrow.Rule.Slice.PartMut.{put_mid}
use Rattle.std.proofs.lemmas.List.{append_assoc, length-append, length-take-le, take_at, drop_at, drop-drop, take-append-drop}
use Rattle.file.specs.Writes.{put}

-- nothing written
pub put_none : (at : ℕ) (slots : List ℕ) → put at [] slots ≡ slots
put_none at slots = ap (λ n. take at slots ++ drop n slots) (let e : at + 0 ≡ at = omega arith in e) ∙ take-append-drop at slots

-- a part of a slice that was written whole
pub put_part : (at : ℕ) (bytes now slots : List ℕ) → now ≡ bytes → put_mid at (at + length bytes - at) slots now ≡ put at bytes slots
put_part at bytes now slots e =
    let n : at + length bytes - at ≡ length bytes = omega arith in
    ap₂ (λ x k. take at slots ++ (x ++ drop k (drop at slots))) e n
    ∙ ap (λ y. take at slots ++ (bytes ++ y)) (drop-drop (length bytes) at slots)

-- bytes behind those that were written last
pub put_more : (at : ℕ) (xs ys slots : List ℕ) → at ≤ length slots → put (at + length xs) ys (put at xs slots) ≡ put at (xs ++ ys) slots
put_more at xs ys slots h =
    let front = take at slots ++ xs in
    let rest = drop (at + length xs) slots in
    let m = at + length xs in
    let whole : put at xs slots ≡ front ++ rest = sym (append_assoc (take at slots) xs rest) in
    let long : length front ≡ m = length-append (take at slots) xs ∙ ap (λ k. k + length xs) (length-take-le at slots h) in
    let before : take m (put at xs slots) ≡ front = ap (take m) whole ∙ take_at front rest m long in
    let after : drop (m + length ys) (put at xs slots) ≡ drop (at + length (xs ++ ys)) slots =
    sym (drop-drop (length ys) m (put at xs slots))
    ∙ ap (drop (length ys)) (ap (drop m) whole ∙ drop_at front rest m long)
    ∙ drop-drop (length ys) m slots
    ∙ ap (λ k. drop k slots) (let l = length-append xs ys in let e : m + length ys ≡ at + length (xs ++ ys) = omega arith in e) in
    let back = drop (at + length (xs ++ ys)) slots in
    ap₂ (λ a b. a ++ (ys ++ b)) before after
    ∙ append_assoc (take at slots) xs (ys ++ back)
    ∙ ap (λ x. take at slots ++ x) (sym (append_assoc xs ys back))

-- the same, where the place is told
pub put_then : (at p : ℕ) (xs ys slots : List ℕ) → at ≤ length slots → p ≡ at + length xs → put p ys (put at xs slots) ≡ put at (xs ++ ys) slots
put_then at p xs ys slots h e = ap (λ k. put k ys (put at xs slots)) e ∙ put_more at xs ys slots h
