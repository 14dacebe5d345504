-- Sets of 64 bits: the boxes that are made of such sets are boxes again.
use Rattle.std.proofs.Common.{◌≡◌, ℕ, zero, suc, ◌^◌, ◌<◌, true, ltb, List, [], ◌∷◌, length, replicate, refl, ap, ◌∙◌, arith}
use lib.Bits.{bit_or, or_lt}
use Rattle.std.specs.List.{AllByRecursion}
use Rattle.std.proofs.lemmas.Nat.{pow_below}
use Rattle.std.proofs.lemmas.Bool.{and_parts, and_from, lt-ltb, ltb-true, cond_both}
use Rattle.space.specs.Boxes.{join, only, point, joined, around, dimensions, words, is_box}
use Rattle.space.proofs.Arounds.{length_around}

pub words_join : (a b : List ℕ) → words a ≡ true → words b ≡ true → words (join a b) ≡ true
words_join [] b p q = refl
words_join (m ∷ a) [] p q = p
words_join (m ∷ a) (n ∷ b) p q =
    let x = and_parts (ltb m (2 ^ 64)) (words a) p in
    let y = and_parts (ltb n (2 ^ 64)) (words b) q in
    and_from (ltb (bit_or m n) (2 ^ 64)) (words (join a b))
    (lt-ltb (bit_or m n) (2 ^ 64) (or_lt 64 m n (ltb-true m (2 ^ 64) x.0) (ltb-true n (2 ^ 64) y.0))) (words_join a b x.1 y.1)

pub words_joined : (a : List ℕ) (bs : List (List ℕ)) → words a ≡ true → AllByRecursion (λ b. words b ≡ true) bs → words (joined a bs) ≡ true
words_joined a [] p q = p
words_joined a (b ∷ bs) p q = words_joined (join a b) bs (words_join a b p q.0) q.1

words_none : (d : ℕ) → words (replicate d 0) ≡ true
words_none zero = refl
words_none (suc d) = words_none d

pub words_around : (d : ℕ) (bs : List (List ℕ)) → AllByRecursion (λ b. words b ≡ true) bs → words (around d bs) ≡ true
words_around d bs q = words_joined (replicate d 0) bs (words_none d) q

pub only_word : (l : ℕ) → only l < 2 ^ 64
only_word l = cond_both (ltb l 64) (2 ^ l) 0 (λ x. x < 2 ^ 64) (λ e. pow_below l 64 (ltb-true l 64 e)) (λ e. omega arith)

pub words_point : (v : List ℕ) → words (point v) ≡ true
words_point [] = refl
words_point (l ∷ v) = and_from (ltb (only l) (2 ^ 64)) (words (point v)) (lt-ltb (only l) (2 ^ 64) (only_word l)) (words_point v)

-- the smallest box around boxes is a box
pub box_around : (d : ℕ) (bs : List (List ℕ)) → dimensions d ≡ true → AllByRecursion (λ b. words b ≡ true) bs → is_box (around d bs) ≡ true
box_around d bs h q =
    and_from (dimensions (length (around d bs))) (words (around d bs)) (ap dimensions (length_around d bs) ∙ h) (words_around d bs q)
