-- The rows of a file, one by one.
use Rattle.std.proofs.Common.{◌≡◌, ℕ, zero, suc, ◌+◌, ◌-◌, ◌*◌, ◌<◌, ◌≤◌, cond, map, ltb, List, [], length, get_or, take, drop, Some, sym, refl, ap, ◌∙◌, ap₂, mul-le-mul_left, mul-zero, mul-suc, add-one, arith}
use Rattle.std.proofs.lemmas.List.{drop-drop, length-drop, length-take-le}
use Rattle.space.specs.Row.{Row}
use Rattle.space.specs.Plans.{letter_fault}
use Rattle.space.specs.declared.plan.ClipFault.TheVariants.{Number}
use Rattle.space.proofs.Faults.{fault_none, fault_some}
use Rattle.rules.specs.File.{number_of, rows_from}
use Rattle.file.specs.Checked.{first, in_row, number_fault, letters_fault}
use Rattle.file.specs.Cut.{numbered}
use Rattle.std.specs.Simd.{first_chunks}

pub length_rows : (n d : ℕ) (N L : List ℕ) → length (rows_from n d N L) ≡ n
length_rows zero d N L = refl
length_rows (suc n) d N L = ap suc (length_rows n d (drop 4 N) (drop d L))

-- row i stands behind i numbers, and behind the letters of i rows
abbrev pub row_in : ℕ → List ℕ → List ℕ → ℕ → Row
row_in d N L i = record { number = number_of (take 4 (drop (4 * i) N)); letters = take d (drop (d * i) L) }

pub row_is : (n d : ℕ) (N L : List ℕ) (i : ℕ) (none : Row) → i < n → get_or (rows_from n d N L) i none ≡ row_in d N L i
row_is zero d N L i none h = absurd (omega arith)
row_is (suc n) d N L zero none h =
    ap (λ k. record { number = number_of (take 4 N); letters = take d (drop k L) }) (sym (mul-zero d))
row_is (suc n) d N L (suc i) none h =
    let row : List ℕ → List ℕ → Row = λ a b. record { number = number_of (take 4 a); letters = take d b } in
    let p : 4 + 4 * i ≡ 4 * suc i = omega arith in
    let q : d + d * i ≡ d * suc i = let m = mul-suc d i in omega arith in
    row_is n d (drop 4 N) (drop d L) i none (omega arith)
    ∙ ap₂ row (drop-drop (4 * i) 4 N ∙ ap (λ k. drop k N) p) (drop-drop (d * i) d L ∙ ap (λ k. drop k L) q)

-- chunk i stands behind i chunks
pub chunk_at : (n i : ℕ) (N : List ℕ) → i < n → get_or (first_chunks 4 n N) i [] ≡ take 4 (drop (4 * i) N)
chunk_at zero i N h = absurd (omega arith)
chunk_at (suc n) zero N h = refl
chunk_at (suc n) (suc i) N h =
    let p : 4 + 4 * i ≡ 4 * suc i = omega arith in
    chunk_at n i (drop 4 N) (omega arith) ∙ ap (take 4) (drop-drop (4 * i) 4 N ∙ ap (λ k. drop k N) p)

-- where the letters of row i end
pub row_within : (d n i m : ℕ) → i < n → d * n ≤ m → d * i + d ≤ m
row_within d n i m h l =
    let a : d * suc i ≤ d * n = mul-le-mul_left d (let k : suc i ≤ n = omega arith in k) in
    let b = mul-suc d i in
    omega arith

pub row_long : (d n i : ℕ) (L : List ℕ) → i < n → d * n ≤ length L → length (take d (drop (d * i) L)) ≡ d
row_long d n i L h l =
    let a = row_within d n i (length L) h l in
    let b = length-drop (d * i) L in
    length-take-le d (drop (d * i) L) (omega arith)

-- ---- the numbers alone, and the letters alone
pub numbers_alone : (i last n d : ℕ) (N L : List ℕ) → number_fault i last (rows_from n d N L) ≡ number_fault i last (map numbered (first_chunks 4 n N))
numbers_alone i last zero d N L = refl
numbers_alone i last (suc n) d N L =
    let x = number_of (take 4 N) in
    ap (λ t. cond (ltb last x) t (in_row i (Some Number))) (numbers_alone (suc i) x n d (drop 4 N) (drop d L))

pub letters_alone : (i n : ℕ) (plan N L : List ℕ) → letters_fault i plan (rows_from n (length plan) N L) ≡ letters_fault i plan (rows_from n (length plan) [] L)
letters_alone i zero plan N L = refl
letters_alone i (suc n) plan N L =
    let d = length plan in
    ap (first (in_row i (letter_fault 1 plan (take d L)))) (letters_alone (suc i) n plan (drop 4 N) (drop d L) ∙ sym (letters_alone (suc i) n plan (drop 4 []) (drop d L)))

-- ---- the step of the loop that checks the letters: of n rows k are behind, and the letters of the others are left
pub letters_step : (i : ℕ) (plan L : List ℕ) (n k : ℕ) → k < n
    → letters_fault i plan (rows_from (n - k) (length plan) [] L)
    ≡ first (in_row i (letter_fault 1 plan (take (length plan) L))) (letters_fault (i + 1) plan (rows_from (n - (k + 1)) (length plan) [] (drop (length plan) L)))
letters_step i plan L n k h =
    let d = length plan in
    let e : n - k ≡ suc (n - (k + 1)) = omega arith in
    ap (λ m. letters_fault i plan (rows_from m d [] L)) e
    ∙ ap (λ j. first (in_row i (letter_fault 1 plan (take d L))) (letters_fault j plan (rows_from (n - (k + 1)) d [] (drop d L)))) (sym (add-one i))

pub ruleset steps = (letters_step, fault_none, fault_some)
