-- What a bar leaves of a box.
use Rattle.std.specs.Prelude.{◌≡◌, ℕ, zero, suc, ◌+◌, ◌/◌, ◌%◌, ◌^◌, ◌<◌, ◌≤◌, true, false, not, ◌&&◌, List, [], ◌∷◌, ◌++◌, length, take, drop, ◌==◌, bit_and, bit_xor, nat_eq, nat_lt, slice_index, slice_set, refl}
use Rattle.std.proofs.Common.{sym, ap, ap₂, ◌∙◌, arith}
use Rattle.std.proofs.lemmas.Nat.{shr_le, xor_shr, and_shr, xor_mod, and_mod, and_le_l, xor_lt}
use Rattle.std.proofs.lemmas.List.{take_all, append-nil}
use Rattle.std.proofs.lemmas.Bool.{and_parts, and_from, ltb-true, lt-ltb}
use Rattle.std.proofs.lemmas.Bool.Decides.{nat_tests}
use Rattle.space.specs.Boxes.{has, in_box, words}
use Rattle.space.proofs.Steps.{two_more, one_all, write_more}
use Rattle.measures.specs.Layers.{without, WithoutHas, barred, spared, gap}

bit_without : (p q : ℕ) → p < 2 → q < 2 → (bit_xor p (bit_and p q) == 1) ≡ (p == 1 && not (q == 1))
bit_without zero zero h k = refl
bit_without zero (suc zero) h k = refl
bit_without (suc zero) zero h k = refl
bit_without (suc zero) (suc zero) h k = refl
bit_without zero (suc (suc q)) h k = absurd (omega arith)
bit_without (suc zero) (suc (suc q)) h k = absurd (omega arith)
bit_without (suc (suc p)) q h k = absurd (omega arith)

pub without_has : WithoutHas
without_has m x l =
    let a = m / 2 ^ l in
    let b = x / 2 ^ l in
    let shifted : without m x / 2 ^ l ≡ bit_xor a (bit_and a b) = xor_shr m (bit_and m x) l ∙ ap (bit_xor a) (and_shr m x l) in
    let digit : without m x / 2 ^ l % 2 ≡ bit_xor (a % 2) (bit_and (a % 2) (b % 2)) =
    ap (λ n. n % 2) shifted ∙ xor_mod a (bit_and a b) 1 ∙ ap (bit_xor (a % 2)) (and_mod a b 1) in
    ap (λ n. nat_eq n 1) digit ∙ bit_without (a % 2) (b % 2) (omega arith) (omega arith)

without_word : (m x : ℕ) → m < 2 ^ 64 → without m x < 2 ^ 64
without_word m x h = xor_lt 64 m (bit_and m x) h (let l = and_le_l m x in omega arith)

-- a vector in a box, without a barred letter, is in what is left of the box
pub in_spared : (bars v b : List ℕ) → in_box v b ≡ true → barred bars v ≡ false → in_box v (spared bars b) ≡ true
in_spared [] [] [] h k = refl
in_spared [] [] (m ∷ b) h k = h
in_spared [] (l ∷ v) [] h k = h
in_spared [] (l ∷ v) (m ∷ b) h k = h
in_spared (x ∷ bars) [] [] h k = refl
in_spared (x ∷ bars) [] (m ∷ b) h k = absurd (let z : ◌≡◌ {A = ℕ} 0 1 = cc in omega arith)
in_spared (x ∷ bars) (l ∷ v) [] h k = h
in_spared (x ∷ bars) (l ∷ v) (m ∷ b) h k =
    let e = without_has m x l in
    let p = and_parts (has m l) (in_box v b) h in
    let free : has x l ≡ false = grind arith in
    let rest : barred bars v ≡ false = grind arith in
    and_from (has (without m x) l) (in_box v (spared bars b)) (grind arith) (in_spared bars v b p.1 rest)

pub spared_words : (bars b : List ℕ) → words b ≡ true → words (spared bars b) ≡ true
spared_words bars [] h = refl
spared_words [] (m ∷ b) h = h
spared_words (x ∷ bars) (m ∷ b) h =
    let p = and_parts (nat_lt m (2 ^ 64)) (words b) h in
    and_from (nat_lt (without m x) (2 ^ 64)) (words (spared bars b)) (lt-ltb (without m x) (2 ^ 64) (without_word m x (ltb-true m (2 ^ 64) p.0))) (spared_words bars b p.1)

pub length_spared : (bars b : List ℕ) → length (spared bars b) ≡ length b
length_spared bars [] = refl
length_spared [] (m ∷ b) = refl
length_spared (x ∷ bars) (m ∷ b) = ap suc (length_spared bars b)

-- a box with a vector in it has no empty set
has_some : (m l : ℕ) → has m l ≡ true → (m == 0) ≡ false
has_some m l h = let s = shr_le m l in grind (arith, nat_tests)

pub no_gap : (v b : List ℕ) → in_box v b ≡ true → gap b ≡ false
no_gap [] [] h = refl
no_gap [] (m ∷ b) h = absurd (let z : ◌≡◌ {A = ℕ} 0 1 = cc in omega arith)
no_gap (l ∷ v) [] h = absurd (let z : ◌≡◌ {A = ℕ} 0 1 = cc in omega arith)
no_gap (l ∷ v) (m ∷ b) h =
    let p = and_parts (has m l) (in_box v b) h in
    let one = has_some m l p.0 in
    let more = no_gap v b p.1 in
    grind arith

-- the loop that writes what is left of a box
abbrev pub Spared : List ℕ → List ℕ → List ℕ → ℕ → Type 0
Spared bars b left i = take i left ++ spared (drop i bars) (drop i b) ≡ spared bars b

pub spared_more : (bars b left : List ℕ) (i : ℕ) → i < length bars → i < length b → i < length left → Spared bars b left i
    → Spared bars b (slice_set left i (without (slice_index b i) (slice_index bars i))) (i + 1)
spared_more bars b left i h k n going =
    write_more left i (without (slice_index b i) (slice_index bars i)) (spared (drop (i + 1) bars) (drop (i + 1) b)) n
    ∙ ap (λ t. take i left ++ t) (sym (two_more spared bars b i h k)) ∙ going

pub spared_all : (bars b left : List ℕ) (i : ℕ) → length b ≤ i → length left ≤ i → Spared bars b left i → left ≡ spared bars b
spared_all bars b left i h n going =
    sym (ap₂ (λ x y. x ++ y) (take_all i left n) (one_all (spared (drop i bars)) b i h) ∙ append-nil left) ∙ going
